use Rattle.std.proofs.Common.{◌≡◌, ◌++◌, map, take, string_bytes}
use Rattle.textline.specs.Events.{written}
use Rattle.schedule.specs.Schedules.{text_of}
use Rattle.formtext.proofs.rendering.render.Given as goal

abbrev pub invariant-loop-e : goal.invariant-loop-e
invariant-loop-e l =
    string_bytes l.out ≡ string_bytes l.initial.out ++ text_of (map written (take l.e-index l.events))
