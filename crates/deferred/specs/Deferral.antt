-- What a memory that sets values aside means: its cells are the standing values, its logs are the transactions.
use Rattle.std.specs.Prelude.{map}
use Rattle.memory.specs.Logs.{tx_kept}
use Rattle.memory.specs.Meaning.{Meaning}
use Rattle.deferred.specs.declared.deferred.Deferred.{Deferred}

-- the meaning of the memory
abbrev pub meaning_of : Deferred → Meaning
meaning_of d = record { cells = d.cells; txs = map tx_kept d.txs }
