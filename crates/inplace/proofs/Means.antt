-- Meanings by their parts.
use Rattle.std.proofs.Common.{◌≡◌, ap, ◌∙◌}
use Rattle.memory.specs.Meaning.{Meaning}

-- two meanings are equal where their cells and their transactions are
pub both : (m n : Meaning) → m.cells ≡ n.cells → m.txs ≡ n.txs → m ≡ n
both m n p q = ap (λ l. record { cells = l; txs = m.txs }) p ∙ ap (λ l. record { cells = n.cells; txs = l }) q
