-- What is printed of a memory's answer.
use Rattle.std.specs.Prelude.{ℕ, List, ◌++◌, Ok, Err, Result, codes, decimal}
use Rattle.memory.specs.declared.fault.MemoryFault.{MemoryFault}
use Rattle.memory.specs.Numbers.{number}
use Rattle.twocars.specs.declared.reply.Reply.{Reply}
use Rattle.twocars.specs.declared.reply.Reply.TheVariants.{Done, Value, Refused}

-- `ok`, the value, or `refused` and the refusal's number
abbrev pub reply_text : Reply → List ℕ
reply_text Done = codes "ok"
reply_text (Value value) = decimal value
reply_text (Refused refusal) = codes "refused " ++ decimal (number refusal)

-- a value that was asked for, or why there is none
abbrev pub replied : Result ℕ MemoryFault → Reply
replied (Ok value) = Value value
replied (Err fault) = Refused fault.refusal
