-- The one theorem: every row of the table of starred lines.
-- All but two facts, about any bytes of a length, hold by computation.
use Prim.Native.Nat.{ℕ}
use mathlib.Core.Path.{◌≡◌, refl}
use mathlib.Core.List.{List}
use lib.ListN.{length}
use Rattle.transaction.specs.declared.refusal.Refusal.TheVariants.{TooShort}
use Rattle.transaction.specs.Tokens.{takes_part, same_token, same_input, same_output, same_transaction}
use Rattle.transaction.specs.Checks.{
  index_fits,
  value_fits,
  input_fits,
  output_fits,
  counts_fit,
  fields_fit,
  same_name,
  named_twice,
  balanced,
  mint_fits,
}
use Rattle.reader.specs.Layout.{word_at, body_length, input_at, output_at, inputs_at, outputs_at, transaction_at}
use Rattle.reader.specs.Reading.{
  kind_of,
  head_cause,
  read_cause,
  record_at,
  transaction_in,
  taken_of,
  reading_of,
  refusal,
  rest_of,
}
use Rattle.writer.specs.Layout.{
  word_of,
  input_bytes,
  output_bytes,
  inputs_bytes,
  outputs_bytes,
  transaction_bytes,
  register_bytes,
  vote_bytes,
  mint_bytes,
}
use Rattle.writer.specs.Writing.{register_cause, vote_cause, mint_cause}
use Rattle.model.specs.Steps.{
  inputs_here,
  available,
  available_here,
  pledges,
  vote,
  newly_known,
  decide,
  outputs_here,
  made_here,
  commit,
  after_mint,
  after_register,
  after_vote,
  place_of,
  entry_of,
}
use Rattle.model.specs.Shard.{
  reserved_by,
  reserved,
  held_off,
  mint_refusals,
  register_refusals,
  deliver_form,
  deliver_refusals,
  hear,
  shard_step,
}
use Rattle.model.specs.Cluster.{gave, not_given, at_shard, cluster_step}
use Rattle.model.specs.Model.{log_after, minted_after, step, after, answers, play, play_answers}
use Rattle.model.specs.Totals.{total_amount, held_in, total_held}
use Rattle.edges.specs.Table.{ids_held, readings, WholeRegistration, StarredTable}

-- any 99 bytes of kind 1
short : (bytes : List ℕ) → kind_of bytes ≡ 1 → length bytes ≡ 99 → reading_of bytes ≡ refusal TooShort 99
unfolding head_cause read_cause taken_of reading_of body_length
short bytes kind long = simp (kind, long)

-- any 100 bytes of kind 1
whole : (bytes : List ℕ) → kind_of bytes ≡ 1 → length bytes ≡ 100 → WholeRegistration bytes
unfolding head_cause read_cause taken_of body_length
whole bytes kind long = (simp (kind, long), simp (kind, long))

-- the table
pub starred : StarredTable
unfolding
    takes_part same_token same_input same_output same_transaction
    index_fits value_fits input_fits output_fits counts_fit fields_fit same_name named_twice balanced mint_fits
    word_at body_length input_at output_at inputs_at outputs_at transaction_at
    head_cause read_cause record_at transaction_in taken_of reading_of rest_of
    word_of input_bytes output_bytes inputs_bytes outputs_bytes transaction_bytes register_bytes vote_bytes mint_bytes
    register_cause vote_cause mint_cause
    inputs_here available available_here pledges vote newly_known decide outputs_here made_here commit after_mint
    after_register after_vote place_of entry_of
    reserved_by reserved held_off mint_refusals register_refusals deliver_form deliver_refusals hear shard_step
    gave not_given at_shard cluster_step
    log_after minted_after step after answers play play_answers
    total_amount held_in total_held ids_held readings
starred = record {
  empty-input = (refl, refl, refl, refl, refl);
  length_of_kind_1 = (short, whole, refl, refl, refl, refl);
  amounts = (
    (refl, refl, refl),
    (refl, refl, refl),
    (refl, refl, refl),
    (refl, refl, refl),
    (refl, refl, refl),
    (refl, refl, refl),
    (refl, refl, refl),
    (refl, refl, refl),
  );
  input-index = ((refl, refl, refl), (refl, refl, refl));
  sums = (refl, (refl, refl, refl), refl, (refl, refl, refl));
  two-claims = (refl, refl, refl, refl, refl, refl);
  wrong-owner = (refl, refl, refl);
  one-available = (refl, refl, refl);
  number-again = (refl, refl, refl, refl);
  two-sevens = (refl, refl, refl);
  example_listing = (refl, refl, refl, refl, refl, refl, refl, refl);
  numbers = refl;
}
