use Rattle.listing.proofs.Steps.{refused, carried}
use Rattle.listing.proofs.step.Goals as goal

-- refused by the reader
pub returns-in_default : goal.returns-in_default
returns-in_default c =
    let a = c.args in
    refused a.c.now a.number a.bytes.now a.out.now a.at
    c.read-reading.ensures c.requires.0 c.unwrap_err-refusal.ensures c.of_step-line.ensures.text c.store.ensures c.ends_reading.ensures

-- read, and carried out or refused by the cluster
pub returns : goal.returns
returns c =
    let a = c.args in
    carried a.c.now a.number a.bytes.now a.out.now a.at
    c.read-reading.ensures c.in-Ok.is c.call-answer.ensures c.receiver_of.ensures c.place_of.ensures
    c.of_step-line-2.ensures.text c.store-2.ensures
