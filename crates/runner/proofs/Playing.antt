-- A schedule that is run, event after event, and the ways out of it. Assumes nothing.
use Rattle.std.proofs.Common.{◌≡◌, ℕ, ◌+◌, ◌<◌, ◌≤◌, List, [], ◌∷◌, ◌++◌, length, IsErrAnd, Ok}
use Rattle.std.proofs.Common.{Err, Result, sym, refl, ap, ◌∙◌, subst, append_assoc, append-nil, arith}
use Rattle.std.proofs.lemmas.List.{length_push}
use Rattle.memory.specs.Meaning.{Meaning}
use Rattle.stages.specs.declared.answer.Answer.{Answer}
use Rattle.lock.specs.declared.fault.SizeFault.{SizeFault}
use Rattle.lock.specs.Lock.{Size}
use Rattle.door.specs.declared.fault.DoorFault.{DoorFault}
use Rattle.door.specs.declared.fault.Unfit.{Unfit}
use Rattle.door.specs.Door.{DoorState, new_door, called}
use Rattle.door.specs.Door as door
use Rattle.door.specs.Doors.{set_up}
use Rattle.board.specs.declared.board.Board.{Board}
use Rattle.board.specs.Boards.{given_by}
use Rattle.board.specs.Book.{Follows}
use Rattle.board.specs.History.{board_state, board_size, Carries, StandsAfter}
use Rattle.board.proofs.Sizes.{made_of, made_is}
use Rattle.textline.specs.declared.events.Event.{Event}
use Rattle.textline.specs.declared.events.SizeLines.{SizeLines}
use Rattle.textline.specs.declared.faults.FormFault.{FormFault}
use Rattle.textline.specs.declared.faults.FormFault.TheVariants.{TooLong, BadLine}
use Rattle.textline.specs.Lines.{NumberLine, EventLine}
use Rattle.schedule.specs.Schedules.{StopsAt, RendersNone}
use Rattle.schedule.specs.Sections.{SizeSection, TakesSizes}
use Rattle.schedule.proofs.Progress.{Progress, progress_none, progress_more}
use Rattle.schedule.proofs.Progress.{count_stops, event_stops, event_none, end_stops, end_none}
use Rattle.report.specs.Texts.{answer_line, bad_line, sizes_line}
use Rattle.runner.specs.declared.faults.RunFault.{RunFault}
use Rattle.runner.specs.declared.faults.RunFault.TheVariants.{Memory, Form, Sizes}
use Rattle.runner.specs.Calls.{call_of_event, calls_of}
use Rattle.runner.specs.Prints.{answered, asks, Reaches, Prints}
use Rattle.runner.specs.Prints.Runs.{uncounted, stopped, finished}
use Rattle.runner.specs.Prints.Prints.{long, unsized, ran}
use Rattle.runner.specs.Plays.{Plays, Ends}
use Rattle.runner.proofs.Answering.{calls_push, state_push, answered_push}

made_ok : {X : Type 0} (memory : X) (j : Result Size SizeFault) (z : Size) (s : DoorState)
    → Ok (z, s) ≡ made_of memory j → (j ≡ Ok z) × (s ≡ new_door)
made_ok memory (Ok y) z s q =
    let e : ◌≡◌ {A = Size × DoorState} (z, s) (y, new_door) = cc in
    (ap (λ (w : Size × DoorState). Ok w.0) (sym e), ap (λ (w : Size × DoorState). w.1) e)
made_ok memory (Err f) z s q = cc

made_err : {X : Type 0} (memory : X) (j : Result Size SizeFault) (u : Unfit X)
    → Err u ≡ made_of memory j → j ≡ Err u.fault
made_err memory (Ok y) u q = cc
made_err memory (Err f) u q =
    let e : u ≡ record { fault = f; memory = memory } = cc in
    ap (λ w. Err w.fault) (sym e)

-- the sizes of a board that was set up, and its state
pub sized_up : {X : Type 0} (meaning : X → Meaning) (memory : X) (s : SizeLines) (b : Board X)
    → given_by meaning (Ok b) ≡ set_up memory s.cards s.nodes s.counters
    → (asks s ≡ Ok (board_size b)) × (board_state meaning b ≡ new_door)
sized_up meaning memory s b e =
    made_ok memory (asks s) (board_size b) (board_state meaning b)
    (e ∙ made_is memory (asks s))

-- the sizes of none
pub not_sized : {X : Type 0} (meaning : X → Meaning) (memory : X) (s : SizeLines) (u : Unfit X)
    → given_by meaning (Err u) ≡ set_up memory s.cards s.nodes s.counters → asks s ≡ Err u.fault
not_sized meaning memory s u e = made_err memory (asks s) u (e ∙ made_is memory (asks s))

module _ {X : Type 0} (meaning : X → Meaning) where
  -- a fault of the form is passed on
  pub fails : (start bs now told : List ℕ) (r : Result (Board X) RunFault) (f : FormFault)
      → IsErrAnd r (λ y. y ≡ Form f)
      → now ≡ start ++ told → Prints bs (told ++ bad_line f) → Plays meaning start bs now r
  fails start bs now told (Ok u) f e is b = absurd e
  fails start bs now told (Err g) f e is b = subst (λ h. Plays meaning start bs now (Err h)) (sym e) (told, is, b)

  -- a fault of the sizes is passed on
  pub fails_sizes : (start bs now : List ℕ) (r : Result (Board X) RunFault) (f : SizeFault)
      → IsErrAnd r (λ y. y ≡ Sizes f)
      → now ≡ start → Prints bs (sizes_line f) → Plays meaning start bs now r
  fails_sizes start bs now (Ok u) f e is b = absurd e
  fails_sizes start bs now (Err g) f e is b =
      subst (λ h. Plays meaning start bs now (Err h)) (sym e) ([], is ∙ sym (append-nil start), b)

-- one of the size lines is at fault
pub bad_sizes : (bs : List ℕ) (f : FormFault) → TakesSizes bs (Err f) → Prints bs (bad_line f)
bad_sizes bs TooLong t = long t
bad_sizes bs (BadLine line) t = unsized line t.0 t.1 t.2

-- the count is at fault
pub bad_count : (bs head : List ℕ) (s : SizeLines) (z : Size) (f : FormFault) → length bs ≤ 65535
    → SizeSection bs s head → asks s ≡ Ok z → f ≡ BadLine 5
    → ((n : ℕ) (after : List ℕ) → n ≤ 2000 → NumberLine head n after → ⊥) → Prints bs (bad_line f)
bad_count bs head s z f short section fits is none =
    subst (λ g. Prints bs (bad_line g)) (sym is)
    (ran s head z _ short section fits (uncounted (count_stops bs head s section none)))

-- `index` events of bs are run on a board of sizes z that is in state `at`; their answers are told, and `rest` follows
pub record Playing (bs start now : List ℕ) (z : Size) (at : DoorState) (count index : ℕ) (rest : List ℕ) : Type 0 where
  pub sizes : SizeLines
  pub done : List Event
  pub short : length bs ≤ 65535
  pub fits : asks sizes ≡ Ok z
  pub reached : length done ≡ index
  pub progress : Progress bs sizes count done rest
  pub follows : Follows z (calls_of done) at
  pub state : at ≡ door.ran z new_door (calls_of done)
  pub told : now ≡ start ++ answered z done

-- a new board
pub playing_none : (bs start head body : List ℕ) (s : SizeLines) (z : Size) (at : DoorState) (count : ℕ)
    → length bs ≤ 65535 → asks s ≡ Ok z → at ≡ new_door → StandsAfter z [] at → SizeSection bs s head → count ≤ 2000
    → NumberLine head count body → Playing bs start start z at count 0 body
playing_none bs start head body s z at count short fits new stands section few counted = record {
  sizes = s;
  done = [];
  short = short;
  fits = fits;
  reached = refl;
  progress = progress_none bs head body s count section few counted;
  follows = stands.follows;
  state = new;
  told = sym (append-nil start);
}

module _ {bs start now : List ℕ} {z : Size} {at : DoorState} {count index : ℕ} {rest : List ℕ}
    (p : Playing bs start now z at count index rest) where
  -- one event more
  pub playing_more : (next piece after : List ℕ) (y : Size) (to : DoorState) (n : ℕ) (e : Event)
      (r : Result Answer DoorFault) → index < count → EventLine rest e after
      → (r, to) ≡ called z at (call_of_event e) → y ≡ z → Carries z (call_of_event e) at to r
      → next ≡ now ++ piece → piece ≡ answer_line n r → n ≡ index + 1
      → Playing bs start next y to count (index + 1) after
  playing_more next piece after y to n e r lt line moves same carries pushed piece_is number =
      let reached = p.reached in
      let here : n ≡ length p.done + 1 = omega arith in
      let M : ◌≡◌ {A = Result Answer DoorFault × DoorState} (r, to)
      (called z (door.ran z new_door (calls_of p.done)) (call_of_event e)) =
      moves ∙ ap (λ (x : DoorState). called z x (call_of_event e)) p.state in
      let C = (carries (calls_of p.done) p.follows).after.follows in
      subst (λ w. Playing bs start next w to count (index + 1) after) (sym same) (record {
        sizes = p.sizes;
        done = p.done ++ e ∷ [];
        short = p.short;
        fits = p.fits;
        reached = omega (arith, length_push p.done e);
        progress = progress_more e after p.progress (omega arith) line;
        follows = subst (λ cs. Follows z cs to) (sym (calls_push p.done e)) C;
        state = ap (λ (w : Result Answer DoorFault × DoorState). w.1) M ∙ sym (state_push z p.done e);
        told = pushed
            ∙ (λ i. p.told i ++ (piece_is ∙ ap (λ (w : Result Answer DoorFault × DoorState). answer_line n w.0) M) i)
            ∙ append_assoc start (answered z p.done) _
            ∙ ap (λ l. start ++ l) (sym (answered_push z p.done e n here));
      })

  reaches : Reaches bs p.sizes count p.done rest
  reaches = record {
    few = p.progress.few;
    within = p.progress.within;
    small = p.progress.events;
    whole = p.progress.begun.whole;
  }

  stops : (line : ℕ) → line ≡ 6 + length p.done → StopsAt line bs → RendersNone bs
      → Prints bs (answered z p.done ++ bad_line (BadLine line))
  stops line is stop none = ran p.sizes p.progress.head z _ p.short p.progress.section p.fits
      (stopped count p.done rest line reaches is stop none)

  module _ {X : Type 0} (meaning : X → Meaning) where
    -- the next line is that of no event
    pub stops_event : (r : Result (Board X) RunFault) (f : FormFault) → index < count → IsErrAnd r (λ y. y ≡ Form f)
        → f ≡ BadLine (6 + index) → ((e : Event) (after : List ℕ) → EventLine rest e after → ⊥)
        → Plays meaning start bs now r
    stops_event r f lt e is none =
        let reached = p.reached in
        let more : length p.done < count = omega arith in
        let line : 6 + index ≡ 6 + length p.done = omega arith in
        let stop = event_stops p.progress (6 + index) line more none in
        fails meaning start bs now _ r f e p.told
        (subst (λ g. Prints bs (answered z p.done ++ bad_line g)) (sym is)
        (stops (6 + index) line stop (event_none p.progress (6 + index) line more stop)))

    -- something follows the last event
    pub stops_end : (r : Result (Board X) RunFault) (f : FormFault) → index ≡ count → IsErrAnd r (λ y. y ≡ Form f)
        → f ≡ BadLine (6 + count) → (rest ≡ [] → ⊥) → Plays meaning start bs now r
    stops_end r f last e is some =
        let reached = p.reached in
        let all : length p.done ≡ count = omega arith in
        fails meaning start bs now _ r f e p.told
        (subst (λ g. Prints bs (answered z p.done ++ bad_line g)) (sym is)
        (stops (6 + count) (omega arith) (end_stops p.progress all) (end_none p.progress all some)))

-- what is told and the last line are all that is printed
pub prints : {X : Type 0} (meaning : X → Meaning) (bs start now out last : List ℕ) (r : Result (Board X) RunFault)
    → start ≡ [] → Plays meaning start bs now r → Ends meaning r last → out ≡ now ++ last → Prints bs out
prints meaning bs start now out last (Ok b) none t v is =
    let w = t.2 in
    let told : now ≡ answered (board_size b) w.events = t.1 ∙ ap (λ l. l ++ t.0) none ∙ w.told_is in
    subst (Prints bs) (sym (is ∙ (λ i. told i ++ v (calls_of w.events) w.follows i)))
    (ran w.sizes w.after (board_size b) _ w.short w.section w.asked (finished w.events w.renders))
prints meaning bs start now out last (Err (Form f)) none t v is =
    subst (Prints bs) (sym (is ∙ (λ i. (t.1 ∙ ap (λ l. l ++ t.0) none) i ++ v i))) t.2
prints meaning bs start now out last (Err (Sizes e)) none t v is =
    subst (Prints bs) (sym (is ∙ (λ i. (t.1 ∙ ap (λ l. l ++ t.0) none) i ++ v i))) t.2
prints meaning bs start now out last (Err (Memory _)) none t v is = absurd v
