-- Document 01, 'The listing program': the bytes of a line. A line is its step, its shard (pantry) and its words, one
-- space apart, ended by byte 10.
use Rattle.std.specs.Prelude.{ℕ, zero, suc, ◌+◌, ◌/◌, ◌%◌, Ok, Err, Bool, false, cond, List, [], ◌∷◌, ◌++◌, leb, ltb, Option, None, Some}
use Rattle.transaction.specs.Refusals.{refusal_number}
use Rattle.model.specs.Answers.{Answer, answer_words}

-- a number in decimal without leading zeros; `enough` bounds the count of digits, and a number has no more digits than
-- one more than itself
unfoldable pub decimal_within : ℕ → ℕ → List ℕ
decimal_within zero n = []
decimal_within (suc enough) n = cond (ltb n 10) ((48 + n) ∷ []) (decimal_within enough (n / 10) ++ ((48 + n % 10) ∷ []))

unfoldable pub decimal : ℕ → List ℕ
decimal n = decimal_within (suc n) n

-- words, each with a space in front
abbrev pub spaced : List (List ℕ) → List ℕ
spaced [] = []
spaced (word ∷ words) = (32 ∷ word) ++ spaced words

-- the words of an answer; behind REFUSED stands its number
abbrev pub words_of : Answer → List (List ℕ)
words_of (Err refusal) = answer_words (Err refusal) ++ (decimal (refusal_number refusal) ∷ [])
words_of (Ok done) = answer_words (Ok done)

-- no shard is shown for refusals 1 to 5
abbrev pub unplaced : Answer → Bool
unplaced (Err refusal) = leb (refusal_number refusal) 5
unplaced (Ok done) = false

-- the shard, or "-"
abbrev pub place_word : Bool → ℕ → List ℕ
place_word hidden shard = cond hidden (45 ∷ []) (decimal shard)

-- the shard that is shown, or "-" for none
abbrev pub place_text : Option ℕ → List ℕ
place_text None = 45 ∷ []
place_text (Some shard) = decimal shard

-- the line of a step
unfoldable pub line_of : ℕ → List ℕ → Answer → List ℕ
line_of step place answer = decimal step ++ spaced (place ∷ words_of answer) ++ (10 ∷ [])

-- the last line: TOTAL and the amount (portions) held at all shards
unfoldable pub total_line : ℕ → List ℕ
total_line amount = (84 ∷ 79 ∷ 84 ∷ 65 ∷ 76 ∷ []) ++ spaced (decimal amount ∷ []) ++ (10 ∷ [])
