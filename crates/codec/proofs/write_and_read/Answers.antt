use Rattle.std.proofs.Common.{◌≡◌, length, ap, ◌∙◌, rules}
use Rattle.transaction.proofs.Long.{Long}
use Rattle.reader.specs.Reading.{reading_of}
use Rattle.codec.proofs.ReadBack.{written_reads_back}
use Rattle.codec.proofs.write_and_read.Goals as goal

pub returns : goal.returns
returns c =
    let a = c.args in
    let inputs : length a.t.inputs ≡ 4 = search rules in
    let outputs : length a.t.outputs ≡ 4 = search rules in
    let long : Long a.t = record { inputs = inputs; outputs = outputs } in
    c.read.ensures.whole ∙ ap reading_of c.write.ensures.lent ∙ written_reads_back a.fields a.t a.out.now long
