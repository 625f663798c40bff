-- What is told of a shard's ledger, in words: the token at a place of those held, the transaction at a place of those
-- known, what was found about its inputs.
use Rattle.std.specs.Prelude.{ℕ, zero, suc, ◌≡◌, Option, Some, None, Ok, Err, List, [], ◌∷◌, ◌++◌, map, replicate}
use Rattle.model.specs.declared.Token.{Token}
use Rattle.model.specs.declared.Finding.{Finding}
use Rattle.model.specs.declared.Known.{Known}
use Rattle.model.specs.declared.Outcome.{Outcome}
use Rattle.model.specs.Said.{said_number}
use Rattle.model.specs.Answers.{Report, finding_number, pledging_number}
use Rattle.model.specs.Findings.{reported}
use Rattle.shard.specs.Queries.{token_at, get_known, outcome_at}
use Rattle.words.specs.Words.{words_of}
use Rattle.engine.specs.Codes.{outcome_code, told_code}

-- a token is held: 1, and creator (making swap), index (position), owner (household), amount (portions) and pledge;
-- none: 0, and zeros
unfoldable pub held_code : Option Token → ℕ
held_code (Some token) = 1
held_code None = 0

unfoldable pub token_words : Option Token → List ℕ
token_words (Some token) = token.creator ∷ token.index ∷ token.owner ∷ token.amount ∷ token.pledge ∷ []
token_words None = replicate 5 0

-- the outcome of a known transaction (swap), 3 where none is known
unfoldable pub known_code : Option Outcome → ℕ
known_code (Some outcome) = outcome_code outcome
known_code None = 3

-- a known transaction's 35 words, and the verdict heard from each shard: 0 none, 1 no, 2 yes; zeros where none is known
unfoldable pub known_words : Option Known → List ℕ
known_words (Some known) = words_of known.transaction ++ map said_number known.heard
known_words None = replicate 43 0

-- the token at a place of those held: the answer, and every word of the lent ones
pub record TellsToken (tokens : List Token) (place answer : ℕ) (after : List ℕ) : Type 0 where
  pub answered : answer ≡ held_code (token_at tokens place)
  pub filled : after ≡ token_words (token_at tokens place)

-- the transaction at a place of those known, likewise
pub record TellsKnown (known : List Known) (place answer : ℕ) (after : List ℕ) : Type 0 where
  pub answered : answer ≡ known_code (outcome_at known place)
  pub filled : after ≡ known_words (get_known known place)

-- findings in so many places, two words each: its number and that of the pledging transaction; zeros behind the last
abbrev pub findings_words : ℕ → List Finding → List ℕ
findings_words zero found = []
findings_words (suc places) [] = 0 ∷ 0 ∷ findings_words places []
findings_words (suc places) (f ∷ found) = finding_number f ∷ pledging_number f ∷ findings_words places found

-- the lent words afterwards: a refusal leaves them as they were
unfoldable pub findings_after : Report → List ℕ → List ℕ
findings_after (Err refusal) before = before
findings_after (Ok found) before = findings_words 4 (reported (Ok found))

-- what was found about the inputs of a known transaction: the answer, and every word of the lent ones
pub record TellsFindings (r : Report) (before : List ℕ) (answer : ℕ) (after : List ℕ) : Type 0 where
  pub answered : answer ≡ told_code r
  pub filled : after ≡ findings_after r before
