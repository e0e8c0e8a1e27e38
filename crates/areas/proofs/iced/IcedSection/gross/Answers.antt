use Rattle.areas.proofs.Fits.{under-sizes}
use Rattle.areas.proofs.iced.IcedSection.gross.Goals as goal

pub gross_area-requires : goal.gross_area-requires
gross_area-requires c =
    let f = under-sizes c.args.self.now.ice.thickness c.args.self.now.section.now c.args.self.now.stands in
    (f.width, f.height)
