use Rattle.std.proofs.Common.{◌≡◌, length, rules}
use Rattle.listing.proofs.Stores.{total-shown}
use Rattle.listing.proofs.total.Goals as goal

-- The line stands at the front of the 64 bytes.
pub returns : goal.returns
returns c =
    let long : length c.args.line.now ≡ 64 = search rules in
    total-shown long c.of_total.ensures.text c.total_amount-amount.ensures c.store.ensures
