-- What is printed for a text is one. Assumes nothing.
use Rattle.std.proofs.Common.{◌≡◌, ℕ, ◌+◌, ◌<◌, ◌≤◌, List, [], ◌++◌, map, length, take, drop}
use Rattle.std.proofs.Common.{sym, refl, ap, ◌∙◌, subst, append_assoc, arith}
use Rattle.std.specs.List.{AllByRecursion}
use Rattle.std.proofs.lemmas.List.{take-take, take_all, length-map}
use Rattle.lock.specs.Lock.{Size}
use Rattle.textline.specs.declared.events.Event.{Event}
use Rattle.textline.specs.declared.events.SizeLines.{SizeLines}
use Rattle.textline.specs.declared.faults.FormFault.TheVariants.{BadLine}
use Rattle.textline.specs.Events.{written}
use Rattle.textline.specs.Lines.{NoEnd}
use Rattle.textline.proofs.Ends.{no_end_decimal}
use Rattle.schedule.specs.Schedules.{front_of, lines_of, text_of, Fits, StopsAt}
use Rattle.schedule.specs.Sections.{SizeSection}
use Rattle.schedule.proofs.Fronts.{peel, event_ends}
use Rattle.schedule.proofs.Once.{same_events, one_rendering}
use Rattle.schedule.proofs.Progress.{text_split, same_sizes, early_none}
use Rattle.report.specs.Texts.{bad_line, sizes_line}
use Rattle.runner.specs.Prints.{answered, queued, asks, Reaches, Runs, OnePrint}
use Rattle.runner.specs.Prints.Runs.{uncounted, stopped, finished}
use Rattle.runner.specs.Prints.Prints.{long, unsized, refused, ran}

-- a text that begins with some lines of a schedule begins with fewer of them
fits_fewer : (j k : ℕ) (bs : List ℕ) → j ≤ k → Fits k bs → Fits j bs
fits_fewer j k bs le f =
    let L = lines_of f.sizes f.events in
    let enough = f.enough in
    record {
      sizes = f.sizes;
      events = f.events;
      after = text_of (drop j (take k L)) ++ f.after;
      sound = f.sound;
      enough = omega arith;
      whole = f.whole ∙ ap (λ l. l ++ f.after) (text_split (take k L) j)
          ∙ append_assoc (text_of (take j (take k L))) (text_of (drop j (take k L))) f.after
          ∙ ap (λ l. text_of l ++ (text_of (drop j (take k L)) ++ f.after)) (take-take j k L le);
    }

-- a text that fits up to a line does not stop at it or before it
fits_past : (bs : List ℕ) (line k : ℕ) → StopsAt line bs → Fits k bs → line ≤ k → ⊥
fits_past bs line k p f le =
    let at = p.next in
    p.none (fits_fewer (p.before + 1) k bs (omega arith) f)

-- a text stops at one line
one_line : (bs : List ℕ) (a b : ℕ) → StopsAt a bs → StopsAt b bs → a ≡ b
one_line bs a b p q =
    let x = p.next in
    let y = q.next in
    let up : a < b → ⊥ = λ lt. fits_past bs a q.before p q.fits (omega arith) in
    let down : b < a → ⊥ = λ lt. fits_past bs b p.before q p.fits (omega arith) in
    omega arith

-- a text that has a size section does not stop in it
sized_past : (bs after : List ℕ) (s : SizeLines) (line : ℕ) → SizeSection bs s after → StopsAt line bs → line ≤ 4 → ⊥
sized_past bs after s line section stop le =
    fits_past bs line 4 stop
    (record {
      sizes = s;
      events = [];
      after = after;
      sound = record { sizes = section.small; few = omega arith; events = tt };
      enough = omega arith;
      whole = section.whole;
    })
    le

module _ (bs head : List ℕ) (s : SizeLines) (section : SizeSection bs s head) where
  -- no line that is reached has a line end within it
  no_ends : (count : ℕ) (done : List Event) (rest : List ℕ) → Reaches bs s count done rest
      → AllByRecursion NoEnd (front_of s count done)
  no_ends count done rest r =
      let few = r.few in (
        no_end_decimal 3 (omega arith),
        (
          no_end_decimal s.cards section.small.0,
          (
            no_end_decimal s.nodes section.small.1.0,
            (
              no_end_decimal s.counters section.small.1.1.0,
              (
                no_end_decimal count (omega arith),
                event_ends done r.small,
              ),
            ),
          ),
        ),
      )

  -- as many events that are reached are the same
  same_reached : (count k : ℕ) (es fs : List Event) (rest after : List ℕ) → Reaches bs s count es rest
      → Reaches bs s k fs after → length es ≡ length fs → es ≡ fs
  same_reached count k es fs rest after p q is =
      let x = length-map es written in
      let y = length-map fs written in
      let front = (peel (front_of s count es) (front_of s k fs) rest after (no_ends count es rest p)
      (no_ends k fs after q)
      (omega arith) (sym p.whole ∙ q.whole)).0 in
      let all = take_all (length (front_of s count es)) (front_of s k fs) (omega arith) in
      let same : front_of s k fs ≡ front_of s count es = sym all ∙ front in
      let lines : map written es ≡ map written fs = cc in
      same_events es fs p.small q.small lines

  -- what is printed from the events on is one
  one_run : (z : Size) (x y : List ℕ) → Runs bs s z x → Runs bs s z y → x ≡ y
  one_run z _ _ (uncounted p) (uncounted q) = refl
  one_run z _ _ (uncounted p) (stopped count done rest line r is stop none) =
      let at = one_line bs 5 line p stop in absurd (omega arith)
  one_run z _ _ (uncounted p) (finished es r) = absurd (early_none bs 5 p (omega arith) s es r)
  one_run z _ _ (stopped count done rest line r is stop none) (uncounted q) =
      let at = one_line bs 5 line q stop in absurd (omega arith)
  one_run z _ _ (stopped count done rest line r is stop none) (stopped k es after at q here stays never) =
      let l = one_line bs line at stop stays in
      let d = same_reached count k done es rest after r q (omega arith) in
      (λ i. answered z (d i) ++ bad_line (BadLine (l i)))
  one_run z _ _ (stopped count done rest line r is stop none) (finished es q) = absurd (none s es q)
  one_run z _ _ (finished es p) (uncounted q) = absurd (early_none bs 5 q (omega arith) s es p)
  one_run z _ _ (finished es p) (stopped count done rest line r is stop none) = absurd (none s es p)
  one_run z _ _ (finished es p) (finished fs q) =
      ap (λ l. answered z l ++ queued z l)
      (one_rendering s s es fs p.sound q.sound (sym p.text ∙ q.text)).1

-- all that is printed is one
pub one_print : OnePrint
one_print bs _ _ (long p) (long q) = refl
one_print bs _ _ (long p) (unsized line short le stop) = absurd (omega arith)
one_print bs _ _ (long p) (refused s after e short section is) = absurd (omega arith)
one_print bs _ _ (long p) (ran s after z x short section is runs) = absurd (omega arith)
one_print bs _ _ (unsized line short le stop) (long q) = absurd (omega arith)
one_print bs _ _ (unsized line short le stop) (unsized at shorter most stays) =
    ap (λ l. bad_line (BadLine l)) (one_line bs line at stop stays)
one_print bs _ _ (unsized line short le stop) (refused s after e shorter section is) =
    absurd (sized_past bs after s line section stop le)
one_print bs _ _ (unsized line short le stop) (ran s after z x shorter section is runs) =
    absurd (sized_past bs after s line section stop le)
one_print bs _ _ (refused s after e short section is) (long q) = absurd (omega arith)
one_print bs _ _ (refused s after e short section is) (unsized line shorter le stop) =
    absurd (sized_past bs after s line section stop le)
one_print bs _ _ (refused s after e short section is) (refused t behind f shorter part are) =
    let fault : e ≡ f = cc (is, ap asks (same_sizes bs after behind s t section part) ∙ are) in
    ap sizes_line fault
one_print bs _ _ (refused s after e short section is) (ran t behind z x shorter part are runs) =
    cc (are, ap asks (same_sizes bs behind after t s part section) ∙ is)
one_print bs _ _ (ran s after z x short section is runs) (long q) = absurd (omega arith)
one_print bs _ _ (ran s after z x short section is runs) (unsized line shorter le stop) =
    absurd (sized_past bs after s line section stop le)
one_print bs _ _ (ran s after z x short section is runs) (refused t behind e shorter part are) =
    cc (is, ap asks (same_sizes bs after behind s t section part) ∙ are)
one_print bs _ _ (ran s after z x short section is runs) (ran t behind y w shorter part are goes) =
    let same = same_sizes bs after behind s t section part in
    let size : z ≡ y = cc (is, ap asks same ∙ are) in
    one_run bs after s section z x w runs
    (subst (λ v. Runs bs s v w) (sym size) (subst (λ u. Runs bs u y w) (sym same) goes))
