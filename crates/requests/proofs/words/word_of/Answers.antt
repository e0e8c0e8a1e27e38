use Rattle.std.proofs.Common.{◌≡◌, arith}
use Rattle.std.specs.Prelude.{codes}
use Rattle.std.proofs.lemmas.Slice.Eq.{text_from_reads}
use Rattle.requests.proofs.words.word_of.Goals as goal

pub returns-in-hang : goal.returns-in-hang
returns-in-hang c =
    let e : c.args.word.now ≡ codes "hang" =
    text_from_reads _ _ (omega arith) (omega arith, (omega arith, (omega arith, (omega arith, tt)))) in
    rw e

pub returns-in-takedown : goal.returns-in-takedown
returns-in-takedown c =
    let e : c.args.word.now ≡ codes "takedown" =
    text_from_reads _ _ (omega arith) (omega arith, (omega arith, (omega arith, (omega arith, (omega arith, (omega arith, (omega arith, (omega arith, tt)))))))) in
    rw e

pub returns-in-report : goal.returns-in-report
returns-in-report c =
    let e : c.args.word.now ≡ codes "report" =
    text_from_reads _ _ (omega arith) (omega arith, (omega arith, (omega arith, (omega arith, (omega arith, (omega arith, tt)))))) in
    rw e

pub returns-in-check : goal.returns-in-check
returns-in-check c =
    let e : c.args.word.now ≡ codes "check" =
    text_from_reads _ _ (omega arith) (omega arith, (omega arith, (omega arith, (omega arith, (omega arith, tt))))) in
    rw e

pub returns-in-wind : goal.returns-in-wind
returns-in-wind c =
    let e : c.args.word.now ≡ codes "wind" =
    text_from_reads _ _ (omega arith) (omega arith, (omega arith, (omega arith, (omega arith, tt)))) in
    rw e

pub returns-in-erect : goal.returns-in-erect
returns-in-erect c =
    let e : c.args.word.now ≡ codes "erect" =
    text_from_reads _ _ (omega arith) (omega arith, (omega arith, (omega arith, (omega arith, (omega arith, tt))))) in
    rw e

pub returns-in-write : goal.returns-in-write
returns-in-write c =
    let e : c.args.word.now ≡ codes "write" =
    text_from_reads _ _ (omega arith) (omega arith, (omega arith, (omega arith, (omega arith, (omega arith, tt))))) in
    rw e

pub returns-in-help : goal.returns-in-help
returns-in-help c =
    let e : c.args.word.now ≡ codes "help" =
    text_from_reads _ _ (omega arith) (omega arith, (omega arith, (omega arith, (omega arith, tt)))) in
    rw e
