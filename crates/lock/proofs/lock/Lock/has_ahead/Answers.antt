use Rattle.std.proofs.Common.{rules, tests, ◌∙◌}
use Rattle.std.proofs.lemmas.Iterator.{YieldsList-from_slice}
use Rattle.std.proofs.lemmas.Iterator.Search.{any_from_yields_List}
use Rattle.stages.specs.declared.stage.Card.{Card}
use Rattle.lock.specs.Lines.{points}
use Rattle.lock.proofs.Cards.{any_ahead}
use Rattle.lock.proofs.lock.Lock.has_ahead.Goals as goal

pub returns : goal.returns
returns g c =
    let m = g.M.Memory.meaning c.args.self.now.memory in
    let cs = c.args.self.now.table.records in
    any_from_yields_List (λ (r : Card). points m r.stage c.args.link) _ _ c.any.result c.any.ensures.ran
    (YieldsList-from_slice cs cc) (λ x b q k. search (rules, tests))
    ∙ any_ahead m cs c.args.link
