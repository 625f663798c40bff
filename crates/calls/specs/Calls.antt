-- The call that a record asks for: a registration, a vote delivery, an opening or a turn (document 01: kinds 1 to 3; document 02, 4: kind 4).
use Rattle.transaction.specs.declared.Transaction.{Transaction}
use Rattle.reader.specs.declared.Record.{Record}
use Rattle.reader.specs.declared.Record.TheVariants.{Register, Vote, Mint, Turn}
use Rattle.model.specs.Shard.{Call, mint, register, deliver, turn}

abbrev pub call_of : Record → Transaction → Call
call_of (Register receiver) t = register receiver t
call_of (Vote receiver sender verdict) t = deliver receiver sender verdict t
call_of (Mint receiver index owner amount) t = mint receiver index owner amount
call_of (Turn receiver) t = turn receiver
