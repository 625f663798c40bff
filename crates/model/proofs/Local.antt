-- The local step (document 000, section 4): what each of its four parts yields, beside its definition. First the inputs here, I(S, τ), then the available
-- ones among them, D(S, τ), then the pledges, then the message.
use Prim.Native.Nat.{ℕ}
use mathlib.Core.Path.{◌≡◌, refl, ap, sym, ◌∙◌, subst}
use mathlib.Core.Logic.{◌↔◌}
use mathlib.Core.Bool.{true, false}
use mathlib.Core.List.{List, Memᴰ}
use lib.Dec.{eqb}
use lib.ListN.{length}
use Rattle.std.specs.Prelude.{Some}
use Rattle.std.proofs.lemmas.Option.{same_Some}
use Rattle.transaction.specs.declared.Input.{Input}
use Rattle.transaction.specs.declared.Transaction.{Transaction}
use Rattle.transaction.specs.Tokens.{used_inputs}
use Rattle.model.specs.declared.Token.{Token}
use Rattle.model.specs.Said.{Said}
use Rattle.model.specs.Steps.{inputs_here, named_by, available, available_here, pledged_to, named_in, pledges, vote}
use Rattle.model.specs.Demand.{token_at}
use Rattle.model.proofs.Basics.{eqb-eq, eqb_same, both, some_inj, all_of, any-no, keep_in, keep_out, keep_all, all-kept}
use Rattle.model.proofs.Holdings.{NoTwice, here-shard, in_here, tok_name, Available, available-token, tok_pledged, tok_unpledged}
use Rattle.model.proofs.Invariant.{Pledged}

-- first, I(S, τ): the transaction's inputs whose shard is this one
pub inputs-here : (p : ℕ) (t : Transaction) (x : Input) → Memᴰ x (inputs_here p t) ↔ (Memᴰ x (used_inputs t) × (x.token.shard ≡ p))
inputs-here p t x = (
  λ m. let r = here-shard p t x m in (r.0, r.1),
  λ r. subst (λ (q : ℕ). Memᴰ x (inputs_here q t)) r.1 (in_here t x r.0),
)

module _ (p : ℕ) (tokens : List Token) (t : Transaction) where
  -- second, D(S, τ): those of I(S, τ) that are available
  pub available-here : (x : Input) → Memᴰ x (available_here p tokens t) ↔ (Memᴰ x (inputs_here p t) × (available tokens x ≡ true))
  unfolding available_here
  available-here x = (keep_out (available tokens) (inputs_here p t), λ r. keep_in (available tokens) (inputs_here p t) r.0 r.1)

  -- the token of one of them
  pub found-token : NoTwice tokens → (x : Input) → Memᴰ x (available_here p tokens t) → Available tokens x
  found-token once x m = available-token tokens x once ((available-here x).0 m).1

  module _ (once : NoTwice tokens) where
    -- third, the tokens of D(S, τ) are pledged to τ
    pub pledged-new : (x : Input) → Memᴰ x (available_here p tokens t)
        → Pledged (pledges t.number (available_here p tokens t) tokens) x.token.creator x.token.index t.number
    pledged-new x m = record {
      token = pledged_to t.number (found-token once x m).token;
      is-pledged = refl;
      is-there = tok_pledged t.number (available_here p tokens t) tokens x m (found-token once x m).is-there;
    }

    -- a token that is pledged is none of theirs
    unnamed : (m i n : ℕ) → (n ≡ 0 → ⊥) → (b : Pledged tokens m i n) → named_in (available_here p tokens t) b.token ≡ false
    unnamed m i n f b = any-no (named_by b.token) (available_here p tokens t) (λ x a y.
        let found = found-token once x a in
        let here = tok_name tokens m i b.is-there in
        let z = both (eqb b.token.creator x.token.creator) (eqb b.token.index x.token.index) y in
        let creator : x.token.creator ≡ m = sym (eqb-eq b.token.creator x.token.creator z.0) ∙ here.0 in
        let index : x.token.index ≡ i = sym (eqb-eq b.token.index x.token.index z.1) ∙ here.1 in
        let same : b.token ≡ found.token = some_inj (sym b.is-there ∙ (λ j. token_at tokens (sym creator j) (sym index j)) ∙ found.is-there) in
        f (sym b.is-pledged ∙ ap (λ (u : Token). u.pledge) same ∙ found.is_free))

    -- what was pledged stays pledged to the same transaction: the first pledge stands
    pub pledged-more : (m i n : ℕ) → (n ≡ 0 → ⊥) → Pledged tokens m i n
        → Pledged (pledges t.number (available_here p tokens t) tokens) m i n
    pledged-more m i n f b = record {
      token = b.token;
      is-pledged = b.is-pledged;
      is-there = tok_unpledged t.number (available_here p tokens t) tokens m i b.is-there (unnamed m i n f b);
    }

  -- fourth, the message is yes exactly if D(S, τ) = I(S, τ)
  pub vote-same : (vote p tokens t ≡ true) ↔ (available_here p tokens t ≡ inputs_here p t)
  unfolding available_here vote
  vote-same = (
    keep_all (available tokens) (inputs_here p t),
    λ e.
        let here = length (inputs_here p t) in
        sym (all-kept (available tokens) (inputs_here p t)) ∙ ap (λ (l : List Input). eqb (length l) here) e ∙ eqb_same here,
  )

  -- then each of I(S, τ) is in D(S, τ)
  pub yes-finds : vote p tokens t ≡ true → (x : Input) → Memᴰ x (inputs_here p t) → Memᴰ x (available_here p tokens t)
  yes-finds e x m = subst (Memᴰ x) (sym (vote-same.0 e)) m

  -- it is yes if D(S, τ) has as many as I(S, τ)
  pub vote-counts : eqb (length (available_here p tokens t)) (length (inputs_here p t)) ≡ vote p tokens t
  unfolding available_here vote
  vote-counts = all-kept (available tokens) (inputs_here p t)

  -- and, as it is noted, exactly if each of I(S, τ) is in D(S, τ)
  pub vote-says : ◌≡◌ {A = Said} (Some (vote p tokens t)) (Some true) ↔ ((x : Input) → Memᴰ x (inputs_here p t) → Memᴰ x (available_here p tokens t))
  unfolding vote
  vote-says = (
    λ e. yes-finds (same_Some (vote p tokens t) true e),
    λ h. ap Some (all_of (available tokens) (inputs_here p t) (λ x m. ((available-here x).0 (h x m)).1)),
  )
