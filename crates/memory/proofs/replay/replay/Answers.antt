use Rattle.std.proofs.Common.{◌≡◌, sym, ◌∙◌, subst}
use Rattle.std.proofs.lemmas.List.{at_drop_all}
use Rattle.memory.specs.Meaning.{cleared}
use Rattle.memory.specs.Calls.{after_calls}
use Rattle.memory.specs.Isolation.{Sound}
use Rattle.memory.proofs.Examples.{examples_hold}
use Rattle.memory.proofs.Lasting.{reads_last}
use Rattle.memory.proofs.Soundness.{always_sound}
use Rattle.memory.proofs.replay.replay.Goals as goal

pub returns-clause-sound : goal.returns-clause-sound
returns-clause-sound g c =
    let calls = c.args.calls.now in
    let m = g.M.Memory.meaning c.loop-call.memory in
    let e : m ≡ after_calls cleared calls =
    sym (at_drop_all (after_calls m) calls c.loop-call.call-index c.loop-call-test.false) ∙ c.loop-call.invariant in
    subst Sound (sym e) (always_sound calls)

pub returns-clause-law : goal.returns-clause-law
returns-clause-law g c = always_sound

pub returns-clause-lasting : goal.returns-clause-lasting
returns-clause-lasting g c = reads_last

pub returns-clause-examples : goal.returns-clause-examples
returns-clause-examples g c = examples_hold
