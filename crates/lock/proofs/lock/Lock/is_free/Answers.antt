use Rattle.std.proofs.Common.{rules, tests, not, ap, ◌∙◌}
use Rattle.std.proofs.lemmas.Iterator.{YieldsList-from_slice}
use Rattle.std.proofs.lemmas.Iterator.Search.{any_from_yields_List}
use Rattle.stages.specs.declared.stage.Card.{Card}
use Rattle.lock.specs.Lock.{has_node}
use Rattle.lock.proofs.Cards.{none_has}
use Rattle.lock.proofs.lock.Lock.is_free.Goals as goal

pub returns : goal.returns
returns g c =
    let cs = c.args.self.now.table.records in
    ap not (any_from_yields_List (λ (r : Card). has_node r.stage c.args.node) _ _ c.any.result c.any.ensures.ran
    (YieldsList-from_slice cs cc) (λ x b q k. search (rules, tests)))
    ∙ none_has cs c.args.node
