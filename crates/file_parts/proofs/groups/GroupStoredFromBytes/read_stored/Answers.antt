use Rattle.std.proofs.Common.{refl}
use Rattle.model.specs.File.{read_group}
use Rattle.file_fields.proofs.Answered.{passed_on}
use Rattle.file_parts.proofs.groups.GroupStoredFromBytes.read_stored.Goals as goal

pub returns-in_err-kind-clause-says : goal.returns-in_err-kind-clause-says
unfolding read_group
returns-in_err-kind-clause-says c = passed_on _ _ _ _ c.from_residual.ensures.1 (rw c.in_err-kind.ensures.says refl)

pub returns-in_err-size-clause-says : goal.returns-in_err-size-clause-says
unfolding read_group
returns-in_err-size-clause-says c = passed_on _ _ _ _ c.from_residual-in_err-size.ensures.1 (rw (c.in_ok-kind.ensures.says.0, c.in_err-size.ensures.says) refl)

pub returns-in_err-length-clause-says : goal.returns-in_err-length-clause-says
unfolding read_group
returns-in_err-length-clause-says c =
    passed_on _ _ _ _ c.from_residual-in_err-length.ensures.1
    (rw (c.in_ok-kind.ensures.says.0, c.in_ok-size.ensures.says.0, c.in_err-length.ensures.says) refl)

pub returns-clause-says : goal.returns-clause-says
unfolding read_group
returns-clause-says c =
    let long = c.in_ok-length.ensures.says in
    record {
      says = (rw (c.in_ok-kind.ensures.says.0, c.in_ok-size.ensures.says.0, long.0, c.of_kind-member.ensures) refl, long.1);
    }
