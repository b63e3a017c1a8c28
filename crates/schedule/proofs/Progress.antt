-- A schedule read up to some event: what is known, and what its next line can mean. Assumes nothing.
use Rattle.std.proofs.Common.{◌≡◌, ℕ, zero, suc, ◌+◌, ◌-◌, ◌<◌, ◌≤◌, List, [], ◌∷◌, ◌++◌, map, length, get_or, take}
use Rattle.std.proofs.Common.{drop, replicate, decimal, sym, refl, ap, ◌∙◌, subst, append_assoc, append-nil, arith}
use Rattle.std.proofs.Common.{length-append}
use lib.ListN.{length-replicate}
use Rattle.std.specs.List.{AllByRecursion}
use Rattle.std.proofs.lemmas.Fmt.{decimal_injective}
use Rattle.std.proofs.lemmas.List.{take_at, map-append, length-map, drop_all, get_or-map, length_push}
use Rattle.std.proofs.lemmas.List.Elements.{All-append, All-push, All-get_or, All-replicate, All-from_recursion}
use Rattle.std.proofs.lemmas.List.Elements.{recursion_from_All}
use Rattle.textline.specs.declared.events.Event.{Event}
use Rattle.textline.specs.declared.events.Event.TheVariants.{Step}
use Rattle.textline.specs.declared.events.SizeLines.{SizeLines}
use Rattle.textline.specs.Events.{written, numbers_of}
use Rattle.textline.specs.Lines.{NumberLine, EventLine}
use Rattle.textline.specs.Numbers.{Small}
use Rattle.schedule.specs.Schedules.{lines_of, front_of, text_of, Renders, RendersNone, Fits, StopsAt}
use Rattle.schedule.specs.Sections.{SizeSection}
use Rattle.textline.proofs.Ends.{no_end_decimal, no_end_written}
use Rattle.schedule.proofs.Fronts.{Begun, begun_more, peel, Next, next_of, stops, same_number, no_ends}

-- the size lines
abbrev sizes_of : SizeLines → List (List ℕ)
sizes_of s = decimal 3 ∷ decimal s.cards ∷ decimal s.nodes ∷ decimal s.counters ∷ []

-- bs has the sizes s, a count and the events `done`, and goes on with `rest`
pub record Progress (bs : List ℕ) (s : SizeLines) (count : ℕ) (done : List Event) (rest : List ℕ) : Type 0 where
  pub head : List ℕ
  pub body : List ℕ
  pub section : SizeSection bs s head
  pub few : count ≤ 2000
  pub counted : NumberLine head count body
  pub within : length done ≤ count
  pub events : AllByRecursion (λ e. Small (numbers_of e)) done
  pub begun : Begun bs (front_of s count done) rest

-- the size section is four lines that are known
begun_sizes : (bs head : List ℕ) (s : SizeLines) → SizeSection bs s head → Begun bs (sizes_of s) head
begun_sizes bs head s h = record {
  whole = h.whole;
  lines = (
    no_end_decimal 3 (omega arith),
    (
      no_end_decimal s.cards h.small.0,
      (no_end_decimal s.nodes h.small.1.0, (no_end_decimal s.counters h.small.1.1.0, tt)),
    ),
  );
}

-- a text has one size section
pub same_sizes : (bs a b : List ℕ) (s t : SizeLines) → SizeSection bs s a → SizeSection bs t b → s ≡ t
same_sizes bs a b s t p q =
    let x = begun_sizes bs a s p in
    let y = begun_sizes bs b t q in
    let same = (peel (sizes_of s) (sizes_of t) a b x.lines y.lines (omega arith) (sym x.whole ∙ y.whole)).0 in
    let pc = p.small.0 in
    let pn = p.small.1.0 in
    let pk = p.small.1.1.0 in
    let qc = q.small.0 in
    let qn = q.small.1.0 in
    let qk = q.small.1.1.0 in
    let cards = decimal_injective t.cards s.cards (omega arith) (omega arith) (ap (λ l. get_or l 1 []) same) in
    let nodes = decimal_injective t.nodes s.nodes (omega arith) (omega arith) (ap (λ l. get_or l 2 []) same) in
    let counters = decimal_injective t.counters s.counters (omega arith) (omega arith)
    (ap (λ l. get_or l 3 []) same) in
    (λ i. record { cards = sym cards i; nodes = sym nodes i; counters = sym counters i })

-- the count is read
pub progress_none : (bs head body : List ℕ) (s : SizeLines) (count : ℕ) → SizeSection bs s head → count ≤ 2000
    → NumberLine head count body → Progress bs s count [] body
progress_none bs head body s count section few counted = record {
  head = head;
  body = body;
  section = section;
  few = few;
  counted = counted;
  within = omega arith;
  events = tt;
  begun = begun_more (decimal count) body (begun_sizes bs head s section) (no_end_decimal count counted.small)
      counted.whole;
}

-- an event more is read
pub progress_more : {bs : List ℕ} {s : SizeLines} {count : ℕ} {done : List Event} {rest : List ℕ} (e : Event)
    (after : List ℕ)
    → Progress bs s count done rest → length done < count → EventLine rest e after
    → Progress bs s count (done ++ e ∷ []) after
progress_more {bs} {s} {count} {done} {rest} e after p lt line = record {
  head = p.head;
  body = p.body;
  section = p.section;
  few = p.few;
  counted = p.counted;
  within = omega (arith, length_push done e);
  events = recursion_from_All (λ x. Small (numbers_of x)) (done ++ e ∷ [])
      (All-push (λ x. Small (numbers_of x)) done e
      (All-from_recursion (λ x. Small (numbers_of x)) done p.events) line.small);
  begun = subst (λ l. Begun bs (sizes_of s ++ (decimal count ∷ l)) after) (sym (map-append written done (e ∷ [])))
      (begun_more (written e) after p.begun (no_end_written e line.small) line.whole);
}

-- a text is its first k lines and the others
pub text_split : (ls : List (List ℕ)) (k : ℕ) → text_of ls ≡ text_of (take k ls) ++ text_of (drop k ls)
text_split ls zero = refl
text_split [] (suc k) = refl
text_split (l ∷ ls) (suc k) =
    ap (λ x. l ++ (10 ∷ x)) (text_split ls k) ∙ sym (append_assoc l (10 ∷ text_of (take k ls)) (text_of (drop k ls)))

-- a rendering begins with any number of its lines
renders_fits : (bs : List ℕ) (s : SizeLines) (es : List Event) (k : ℕ) → Renders bs s es → k ≤ length (lines_of s es)
    → Fits k bs
renders_fits bs s es k r le = record {
  sizes = s;
  events = es;
  after = text_of (drop k (lines_of s es));
  sound = r.sound;
  enough = le;
  whole = r.text ∙ text_split (lines_of s es) k;
}

-- the count that is read is the count of every rendering
same_count : (bs head body : List ℕ) (s t : SizeLines) (count : ℕ) (fs : List Event) → SizeSection bs s head
    → NumberLine head count body → Renders bs t fs → length fs ≡ count
same_count bs head body s t count fs section counted r =
    let few = r.sound.few in
    let k = next_of t fs (text_of (drop 5 (lines_of t fs))) (begun_sizes bs head s section) r.sound (omega arith)
    (r.text ∙ text_split (lines_of t fs) 5) in
    sym (same_number head body _ count (length fs) counted (record { small = omega arith; whole = k.1 })).0

-- a text that stops at one of its first five lines is no rendering
pub early_none : (bs : List ℕ) (line : ℕ) → StopsAt line bs → line ≤ 5 → RendersNone bs
early_none bs line stop le s es r =
    let is = stop.next in
    stop.none (renders_fits bs s es (stop.before + 1) r (omega arith))

-- no count of events stands on the fifth line
pub count_stops : (bs head : List ℕ) (s : SizeLines) → SizeSection bs s head
    → ((n : ℕ) (after : List ℕ) → n ≤ 2000 → NumberLine head n after → ⊥) → StopsAt 5 bs
count_stops bs head s section none =
    stops 5 (omega arith) (begun_sizes bs head s section)
    (record {
      sizes = s;
      events = [];
      after = head;
      sound = record { sizes = section.small; few = omega arith; events = tt };
      enough = omega arith;
      whole = section.whole;
    })
    (λ x.
    let few = x.sound.few in
    none (length x.events) x.after x.sound.few (record { small = omega arith; whole = x.goes }))

-- the first lines of a schedule are those up to the last of `done`
take_front : (s : SizeLines) (count : ℕ) (done more : List Event) → length (done ++ more) ≡ count
    → take (length (front_of s count done)) (lines_of s (done ++ more)) ≡ front_of s count done
take_front s count done more is =
    let events : take (length (map written done)) (map written (done ++ more)) ≡ map written done =
    ap (take (length (map written done))) (map-append written done more)
    ∙ take_at (map written done) (map written more) (length (map written done)) refl in
    (λ i. decimal 3 ∷ decimal s.cards ∷ decimal s.nodes ∷ decimal s.counters ∷ decimal (is i) ∷ events i)

module _ {bs : List ℕ} {s : SizeLines} {count : ℕ} {done : List Event} {rest : List ℕ}
    (p : Progress bs s count done rest) where
  -- the lines so far are those of a schedule, whatever events are still to come
  fits_done : Fits (length (front_of s count done)) bs
  fits_done =
      let few = p.few in
      let within = p.within in
      let more = replicate (count - length done) (Step 0) in
      let long : length (done ++ more) ≡ count =
      omega (arith, length-append done more, length-replicate (count - length done) (Step 0)) in
      record {
        sizes = s;
        events = done ++ more;
        after = rest;
        sound = record {
          sizes = p.section.small;
          few = omega arith;
          events = recursion_from_All (λ e. Small (numbers_of e)) (done ++ more)
              (All-append (λ e. Small (numbers_of e)) done more
              (All-from_recursion (λ e. Small (numbers_of e)) done p.events)
              (All-replicate (λ e. Small (numbers_of e)) (count - length done) (Step 0) (omega arith, tt)));
        };
        enough = omega (arith, length-map done written, length-map (done ++ more) written);
        whole = p.begun.whole ∙ ap (λ l. text_of l ++ rest) (sym (take_front s count done more long));
      }

  -- a schedule that goes on has as many events as are counted
  next_count : (x : Next (front_of s count done) rest) → length x.events ≡ count
  next_count x =
      let few = p.few in
      let most = x.sound.few in
      decimal_injective (length x.events) count (omega arith) (omega arith) (ap (λ l. get_or l 4 []) x.same)

  -- an event is to come, and the next line is that of none
  pub event_stops : (line : ℕ) → line ≡ 6 + length done → length done < count
      → ((e : Event) (after : List ℕ) → EventLine rest e after → ⊥) → StopsAt line bs
  event_stops line is lt none =
      stops line (omega (arith, length-map done written)) p.begun fits_done
      (λ x.
      let i = length (map written done) in
      let at : i < length x.events = omega (arith, length-map done written, next_count x) in
      none (get_or x.events i (Step 0)) x.after (record {
        small = All-get_or (λ e. Small (numbers_of e)) x.events i (Step 0) at
            (All-from_recursion (λ e. Small (numbers_of e)) x.events x.sound.events);
        whole = x.goes ∙ ap (λ l. l ++ (10 ∷ x.after)) (get_or-map written x.events i (Step 0) [] at);
      }))

  -- then the text is no rendering
  pub event_none : (line : ℕ) → line ≡ 6 + length done → length done < count → StopsAt line bs → RendersNone bs
  event_none line is lt stop t fs r =
      let next = stop.next in
      let same = same_count bs p.head p.body s t count fs p.section p.counted r in
      stop.none (renders_fits bs t fs (stop.before + 1) r (omega (arith, length-map fs written)))

  -- no event is to come: the text stops at the next line
  pub end_stops : length done ≡ count → StopsAt (6 + count) bs
  end_stops is =
      stops (6 + count) (omega (arith, length-map done written)) p.begun fits_done
      (λ x.
      let more = x.enough in
      omega (arith, length-map done written, length-map x.events written, next_count x))

  -- what is left then is in no rendering
  pub end_none : length done ≡ count → (rest ≡ [] → ⊥) → RendersNone bs
  end_none is some t fs r =
      let same = same_count bs p.head p.body s t count fs p.section p.counted r in
      let m = length-map done written in
      let n = length-map fs written in
      let k = peel (front_of s count done) (lines_of t fs) rest [] p.begun.lines (no_ends t fs r.sound)
      (omega arith)
      (sym p.begun.whole ∙ r.text ∙ sym (append-nil (text_of (lines_of t fs)))) in
      some (k.1 ∙ ap (λ l. text_of l ++ []) (drop_all (length (front_of s count done)) (lines_of t fs) (omega arith)))

  -- all events are read, and nothing is left
  pub progress_all : length done ≡ count → rest ≡ [] → Renders bs s done
  progress_all is none =
      let few = p.few in
      record {
        sound = record { sizes = p.section.small; few = omega arith; events = p.events };
        text = p.begun.whole ∙ ap (λ l. text_of (front_of s count done) ++ l) none
            ∙ append-nil (text_of (front_of s count done))
            ∙ ap (λ n. text_of (front_of s n done)) (sym is);
      }
