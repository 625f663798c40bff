-- Document 01, 'The steps' (document 000, core Cerberus), at one shard (pantry): what a shard notes, and what each step does to it.
-- `me` is the shard's own number. Registration goes in document 000's order, in four definitions.
use Rattle.std.specs.Prelude.{ℕ, suc, Bool, true, false, cond, not, ◌&&◌, Some, None, is_some, List, [], ◌∷◌, ◌++◌, map, eqb, get_or, set, replicate}
use Rattle.std.proofs.Math.Option.{Option, none, some}
use Rattle.transaction.specs.declared.Input.{Input}
use Rattle.transaction.specs.declared.Output.{Output}
use Rattle.transaction.specs.declared.Transaction.{Transaction}
use Rattle.transaction.specs.Lists.{any, all}
use Rattle.transaction.specs.Tokens.{used_inputs, used_outputs, shards_of, same_transaction, blank_transaction}
use Rattle.model.specs.declared.Token.{Token}
use Rattle.model.specs.declared.Finding.{Finding}
use Rattle.model.specs.declared.Finding.TheVariants.{Available, NotHeld, OtherOwner, OtherAmount, Pledged}
use Rattle.model.specs.declared.Known.{Known}
use Rattle.model.specs.declared.Outcome.{Outcome}
use Rattle.model.specs.declared.Outcome.TheVariants.{Wait, Commit, Abort}
use Rattle.model.specs.Lists.{keep, find, lookup}
use Rattle.model.specs.Said.{Said, is_said_yes, is_said_no}

-- How many tokens a shard holds, how many transactions it knows, and how many genesis indices (opening positions) it has.
pub record Limits : Type 0 where
  pub tokens : ℕ
  pub transactions : ℕ
  pub genesis : ℕ

-- a house's figures
abbrev pub house : Limits
house = record { tokens = 128; transactions = 32; genesis = 128 }

-- What a shard notes: the tokens held, each with its pledge; the genesis indices given; the known transactions with the verdicts heard;
-- whether it has turned (document 02, 4), so that aborts free their tokens.
pub record Ledger : Type 0 where
  pub tokens : List Token
  pub given : List Bool
  pub known : List Known
  pub turned : Bool

-- nothing held, given or known, and not turned
abbrev pub empty_ledger : Limits → Ledger
empty_ledger limits = record { tokens = []; given = replicate limits.genesis false; known = []; turned = false }

-- the ledger with these tokens, these genesis indices given and these known transactions, and all else as it was
abbrev pub noting : Ledger → List Token → List Bool → List Known → Ledger
noting ledger tokens given known = record { tokens = tokens; given = given; known = known; turned = ledger.turned }

-- with these tokens and these known transactions
abbrev pub holding : Ledger → List Token → List Known → Ledger
holding ledger tokens known = noting ledger tokens ledger.given known

-- ---- Opening: the shard holds the token (itself, 0, index)

-- the token of an opening, pledged to no transaction
abbrev pub genesis_token : ℕ → ℕ → ℕ → Token
genesis_token index owner amount = record { creator = 0; index = index; owner = owner; amount = amount; pledge = 0 }

-- the ledger after an opening
unfoldable pub after_mint : Ledger → ℕ → ℕ → ℕ → Ledger
after_mint ledger index owner amount =
    noting ledger (ledger.tokens ++ (genesis_token index owner amount ∷ [])) (set ledger.given index true) ledger.known

-- ---- Registration: the inputs here, the available ones among them, the pledges, the message

-- the input is at this shard
abbrev pub input_here : ℕ → Input → Bool
input_here me x = eqb x.token.shard me

-- first, the inputs at this shard
unfoldable pub inputs_here : ℕ → Transaction → List Input
inputs_here me t = keep (input_here me) (used_inputs t)

-- the input names the token, of this shard
abbrev pub names : Input → Token → Bool
names x token = eqb token.creator x.token.creator && eqb token.index x.token.index

-- the token is named by the input
abbrev pub named_by : Token → Input → Bool
named_by token x = names x token

-- it is that token with that owner and that amount, and it is pledged to no transaction
abbrev pub free_for : Input → Token → Bool
free_for x token = names x token && eqb token.owner x.owner && eqb token.amount x.amount && eqb token.pledge 0

-- an input at this shard is available if the shard holds such a token
unfoldable pub available : List Token → Input → Bool
available tokens x = any (free_for x) tokens

-- second, the available ones among the inputs here
unfoldable pub available_here : ℕ → List Token → Transaction → List Input
available_here me tokens t = keep (available tokens) (inputs_here me t)

-- what is found about each input here (document 02, 2): where it is not available, what stands in the way, by the token held of its name; the first that fits
abbrev pub obstacle : Input → Option Token → Finding
obstacle x none = NotHeld
obstacle x (some token) =
    cond (not (eqb token.owner x.owner)) OtherOwner
    (cond (not (eqb token.amount x.amount)) OtherAmount
    (Pledged token.pledge))

-- the finding about an input here
unfoldable pub finding : List Token → Input → Finding
finding tokens x = cond (available tokens x) Available (obstacle x (lookup (names x) tokens))

-- the findings of a registration: one for each input here, in input order
unfoldable pub findings : ℕ → List Token → Transaction → List Finding
findings me tokens t = map (finding tokens) (inputs_here me t)

-- the finding at a place as it is kept; nobody asks for one behind the last
abbrev pub found_at : List Finding → ℕ → Finding
found_at found place = get_or found place Available

-- as they are kept with the known transaction, which has at most four inputs
unfoldable pub keeping : List Finding → List Finding
keeping found = found_at found 0 ∷ found_at found 1 ∷ found_at found 2 ∷ found_at found 3 ∷ []

-- the token with its pledge
abbrev pub pledged_to : ℕ → Token → Token
pledged_to number token =
    record { creator = token.creator; index = token.index; owner = token.owner; amount = token.amount; pledge = number }

-- with that pledge where a test holds of the token
abbrev pub pledge_when : ℕ → (Token → Bool) → Token → Token
pledge_when number test token = cond (test token) (pledged_to number token) token

-- one of the inputs names the token
abbrev pub named_in : List Input → Token → Bool
named_in inputs token = any (named_by token) inputs

-- pledged if one of the inputs names it
abbrev pub pledge_if : ℕ → List Input → Token → Token
pledge_if number inputs token = pledge_when number (named_in inputs) token

-- third, the pledges: the tokens of these inputs are pledged to the transaction of that number
unfoldable pub pledges : ℕ → List Input → List Token → List Token
pledges number inputs tokens = map (pledge_if number inputs) tokens

-- fourth, the message, the vote: yes if all inputs here are available, so yes where there are outputs only
unfoldable pub vote : ℕ → List Token → Transaction → Bool
vote me tokens t = all (available tokens) (inputs_here me t)

-- a transaction of which no vote is heard, with what was found about its inputs here
abbrev pub unheard : List Finding → Transaction → Known
unheard found t = record { transaction = t; heard = replicate 8 None; findings = found }

-- the known transaction with that verdict noted for a sender
abbrev pub with_said : ℕ → Bool → Known → Known
with_said sender verdict k = record { transaction = k.transaction; heard = set k.heard sender (Some verdict); findings = k.findings }

-- the transaction as it becomes known with these findings and this vote, which counts as heard from this shard
abbrev pub known_with : ℕ → List Finding → Bool → Transaction → Known
known_with me found verdict t = with_said me verdict (unheard found t)

-- as it becomes known by its registration
unfoldable pub newly_known : ℕ → List Token → Transaction → Known
newly_known me tokens t = known_with me (keeping (findings me tokens t)) (vote me tokens t) t

-- ---- Vote: it is noted for its sender

-- the verdict heard from a sender, if there is one
abbrev pub heard_from : ℕ → Known → Said
heard_from sender k = get_or k.heard sender None

-- the known transaction with the sender's verdict (1 yes, 0 no) noted; one above 1 is refused (3) before it could be
abbrev pub hearing : ℕ → ℕ → Known → Known
hearing sender verdict k = with_said sender (eqb verdict 1) k

-- ---- Decision (document 02, 5): abort as soon as one no is heard, the shard's own included; commit when votes of all the transaction's shards
-- are heard and all are yes

-- the shard's vote is heard
abbrev pub is_heard : List Said → ℕ → Bool
is_heard heard shard = is_some (get_or heard shard None)

-- and it is yes
abbrev pub is_yes : List Said → ℕ → Bool
is_yes heard shard = is_said_yes (get_or heard shard None)

-- or it is no
abbrev pub is_no : List Said → ℕ → Bool
is_no heard shard = is_said_no (get_or heard shard None)

-- votes of all the transaction's shards are heard: the commit rule asks it
abbrev pub heard_all : Transaction → List Said → Bool
heard_all t heard = all (is_heard heard) (shards_of t)

-- all are yes
abbrev pub all_yes : Transaction → List Said → Bool
all_yes t heard = all (is_yes heard) (shards_of t)

-- one is no
abbrev pub some_no : Transaction → List Said → Bool
some_no t heard = any (is_no heard) (shards_of t)

-- the decision
unfoldable pub decide : Transaction → List Said → Outcome
decide t heard = cond (some_no t heard) Abort (cond (all_yes t heard) Commit Wait)

-- the outcome of a known transaction
abbrev pub outcome_of : Known → Outcome
outcome_of k = decide k.transaction k.heard

-- ---- Commit destroys the inputs here and makes the outputs here; abort changes no token, but for the pledges that end at a shard that has turned

-- the output is at this shard
abbrev pub output_here : ℕ → Output → Bool
output_here me y = eqb y.shard me

-- the outputs at this shard
unfoldable pub outputs_here : ℕ → Transaction → List Output
outputs_here me t = keep (output_here me) (used_outputs t)

-- the token of an output: its index is the output's place among all outputs
abbrev pub token_of : ℕ → ℕ → Output → Token
token_of number index y = record { creator = number; index = index; owner = y.owner; amount = y.amount; pledge = 0 }

-- the tokens of those of the outputs that are here; `index` is the first one's
abbrev pub tokens_from : ℕ → ℕ → ℕ → List Output → List Token
tokens_from me number index [] = []
tokens_from me number index (y ∷ ys) =
    cond (output_here me y) (token_of number index y ∷ tokens_from me number (suc index) ys) (tokens_from me number (suc index) ys)

-- the tokens that the transaction makes here
unfoldable pub made_here : ℕ → Transaction → List Token
made_here me t = tokens_from me t.number 0 (used_outputs t)

-- no input here names the token
abbrev pub stays : List Input → Token → Bool
stays inputs token = not (named_in inputs token)

-- the tokens after a commit
unfoldable pub commit : ℕ → Transaction → List Token → List Token
commit me t tokens = keep (stays (inputs_here me t)) tokens ++ made_here me t

-- the tokens after an outcome
abbrev pub settle : Outcome → ℕ → Transaction → List Token → List Token
settle Wait me t tokens = tokens
settle Commit me t tokens = commit me t tokens
settle Abort me t tokens = tokens

-- ---- At a shard that has turned (document 02, 4) an abort ends the pledges to its transaction

-- the outcome is abort
abbrev pub is_aborted : Outcome → Bool
is_aborted Wait = false
is_aborted Commit = false
is_aborted Abort = true

-- the token is pledged to the transaction of that number
abbrev pub is_pledged_to : ℕ → Token → Bool
is_pledged_to number token = eqb token.pledge number

-- the tokens of which a test holds come free: they are pledged to no transaction
unfoldable pub freeing : (Token → Bool) → List Token → List Token
freeing test tokens = map (pledge_when 0 test) tokens

-- an abort frees the tokens pledged to the transaction of that number, where the shard has turned
abbrev pub ended : Bool → Outcome → ℕ → List Token → List Token
ended turned decided number tokens = cond (is_aborted decided && turned) (freeing (is_pledged_to number) tokens) tokens

-- the tokens after a decision on the transaction, at a shard that has turned or has not
abbrev pub concluded : Bool → Outcome → ℕ → Transaction → List Token → List Token
concluded turned decided me t tokens = ended turned decided t.number (settle decided me t tokens)

-- ---- What a registration and a fresh vote leave behind, with the decision that they bring

-- the ledger after a registration
unfoldable pub after_register : ℕ → Ledger → Transaction → Ledger
after_register me ledger t =
    let k = newly_known me ledger.tokens t in
    let tokens = pledges t.number (available_here me ledger.tokens t) ledger.tokens in
    holding ledger (concluded ledger.turned (outcome_of k) me t tokens) (ledger.known ++ (k ∷ []))

-- is it this transaction, every field of it
abbrev pub is_for : Transaction → Known → Bool
is_for t k = same_transaction k.transaction t

-- the known transaction and its place; nobody asks for one that is not known
abbrev pub nothing_known : Known
nothing_known = record { transaction = blank_transaction; heard = []; findings = [] }

-- its place among the known ones
unfoldable pub place_of : Transaction → List Known → ℕ
place_of t known = find (is_for t) known

-- and the known transaction there
unfoldable pub entry_of : Transaction → List Known → Known
entry_of t known = get_or known (place_of t known) nothing_known

-- the ledger after a fresh vote
unfoldable pub after_vote : ℕ → Ledger → ℕ → ℕ → Transaction → Ledger
after_vote me ledger sender verdict t =
    let k = hearing sender verdict (entry_of t ledger.known) in
    holding ledger (concluded ledger.turned (outcome_of k) me k.transaction ledger.tokens) (set ledger.known (place_of t ledger.known) k)

-- ---- Turning (document 02, 4): tokens pledged to transactions that the shard has aborted come free, and from then on each abort frees its own

-- the known transaction is aborted here, and the token is pledged to it
abbrev pub is_aborted_for : Token → Known → Bool
is_aborted_for token k = is_aborted (outcome_of k) && is_pledged_to k.transaction.number token

-- the token is pledged to a transaction that the shard has aborted
abbrev pub pledged_to_aborted : List Known → Token → Bool
pledged_to_aborted known token = any (is_aborted_for token) known

-- the ledger after turning
unfoldable pub after_turn : Ledger → Ledger
after_turn ledger =
    record {
      tokens = freeing (pledged_to_aborted ledger.known) ledger.tokens;
      given = ledger.given;
      known = ledger.known;
      turned = true;
    }
