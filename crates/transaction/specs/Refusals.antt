-- Document 01's number for each cause of refusal; from 17 on those of document 02.
use Rattle.std.specs.Prelude.{ℕ, Result, Ok, Err}
use Rattle.transaction.specs.declared.refusal.Refusal.{Refusal}
use Rattle.transaction.specs.declared.refusal.Refusal.TheVariants.{
  UnknownKind,
  TooShort,
  OutOfRange,
  TokenTwice,
  SumsDiffer,
  NotTakingPart,
  NumberTaken,
  KnownAlready,
  TransactionsFull,
  TokensFull,
  NumberUnknown,
  OtherVerdict,
  MintTooLate,
  IndexGiven,
  BufferTooShort,
  VoteNotGiven,
  HeldOff,
  NoSuchNumber,
  TurnedAlready,
}

abbrev pub refusal_number : Refusal → ℕ
refusal_number UnknownKind = 1
refusal_number TooShort = 2
refusal_number OutOfRange = 3
refusal_number TokenTwice = 4
refusal_number SumsDiffer = 5
refusal_number NotTakingPart = 6
refusal_number NumberTaken = 7
refusal_number KnownAlready = 8
refusal_number TransactionsFull = 9
refusal_number TokensFull = 10
refusal_number NumberUnknown = 11
refusal_number OtherVerdict = 12
refusal_number MintTooLate = 13
refusal_number IndexGiven = 14
refusal_number BufferTooShort = 15
refusal_number VoteNotGiven = 16
refusal_number HeldOff = 17
refusal_number NoSuchNumber = 18
refusal_number TurnedAlready = 19

-- the number of an answer: its refusal's, and 0 where it is none
abbrev pub number_of : {A : Type 0} → Result A Refusal → ℕ
number_of (Ok done) = 0
number_of (Err refusal) = refusal_number refusal

-- the answer by the checks: what is to be answered where all pass, and the refusal where one fails
abbrev pub answer_of : {A : Type 0} → Result Unit Refusal → A → Result A Refusal
answer_of (Ok pass) done = Ok done
answer_of (Err refusal) done = Err refusal
