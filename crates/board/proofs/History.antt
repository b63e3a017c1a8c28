-- The promise of the public calls, from that of every book.
use Rattle.std.proofs.Common.{◌≡◌, ℕ, List, [], ◌∷◌, ◌++◌, length, Result, sym, refl, ap, ◌∙◌, subst}
use lib.ListN.{length-map}
use Rattle.stages.specs.declared.answer.Answer.{Answer}
use Rattle.lock.specs.Lock.{Size}
use Rattle.lock.specs.Lines.{nodes_in_line, placed}
use Rattle.door.specs.declared.fault.DoorFault.{DoorFault}
use Rattle.door.specs.declared.call.Call.{Call}
use Rattle.door.specs.Door.{DoorState, called, new_door, ran}
use Rattle.board.specs.Book.{Book, Place, after, new_book, fed_from, fed, Follows}
use Rattle.board.specs.Promise.{Stands, Untouched, Never8, cells_of}
use Rattle.board.proofs.Ranges.{Within}
use Rattle.board.specs.History.{cells_in, StandsAfter, Carries, CarriesAll, CarriedThroughout, nodes_of, LinesUp}
use Rattle.board.proofs.Book.{board_after, whole, promised, never}
use Rattle.board.specs.Answers.{Tells, Grants}
use Rattle.board.specs.Recounts.{LeavesFree, Recounts, RecountedThroughout, RecountsAll}
use Rattle.board.proofs.Untouched.{untouched, leaves_free}
use Rattle.board.proofs.Asked.{all_told}
use Rattle.board.proofs.Granted.{all_granted}
use Rattle.board.proofs.Walks.{line_is_walked}

-- a list of calls in two parts
fed_append : (z : Size) (b : Book) (cs ks : List Call) → fed_from z b (cs ++ ks) ≡ fed_from z (fed_from z b cs) ks
fed_append z b [] ks = refl
fed_append z b (c ∷ cs) ks = fed_append z (after z b c) cs ks

-- one more call
fed_more : (z : Size) (cs : List Call) (k : Call) → fed z (cs ++ k ∷ []) ≡ after z (fed z cs) k
unfolding fed
fed_more z cs k = fed_append z new_book cs (k ∷ [])

-- calls in turn on a state are the same calls fed to the book
ran_fed : (z : Size) (b : Book) (ks : List Call) → (fed_from z b ks).board ≡ ran z b.board ks
ran_fed z b [] = refl
ran_fed z b (k ∷ ks) = ran_fed z (after z b k) ks ∙ ap (λ (s : DoorState). ran z s ks) (board_after z b k)

module _ (z : Size) (W : Within z) where
  -- a board that follows calls has the promise in its memory
  pub stands_after : (cs : List Call) (s : DoorState) → Follows z cs s → StandsAfter z cs s
  stands_after cs s e = record {
    follows = e;
    stands = subst (λ (t : DoorState). Stands z (cells_in t) (fed z cs)) e (promised z W cs);
  }

  -- a board newly set up
  pub begins : (s : DoorState) → s ≡ new_door → StandsAfter z [] s
  unfolding fed
  begins s e = stands_after [] s (sym e)

  -- a call leads the board where it leads the book
  arrives : (cs : List Call) (k : Call) (s t : DoorState) (r : Result Answer DoorFault) → Follows z cs s
      → (r, t) ≡ called z s k → (fed z (cs ++ k ∷ [])).board ≡ t
  arrives cs k s t r f e = ap (λ (b : Book). b.board) (fed_more z cs k) ∙ board_after z (fed z cs) k
      ∙ ap (λ (x : DoorState). (called z x k).1) f
      ∙ sym (ap (λ (p : Result Answer DoorFault × DoorState). p.1) e)

  -- and what holds of the book's cells before and after it holds of the board's
  of_cells : (P : List ℕ → List ℕ → Book → Book → Type 0) (cs : List Call) (k : Call) (s t : DoorState)
      → Follows z cs s → (fed z (cs ++ k ∷ [])).board ≡ t
      → P (cells_of (fed z cs)) (cells_of (after z (fed z cs) k)) (fed z cs) (after z (fed z cs) k)
      → P (cells_in s) (cells_in t) (fed z cs) (fed z (cs ++ k ∷ []))
  of_cells P cs k s t f g p =
      let B = fed z cs in
      let X = fed z (cs ++ k ∷ []) in
      subst (λ (y : DoorState). P (cells_in s) (cells_in y) B X) g
      (subst (λ (x : DoorState). P (cells_in x) (cells_of X) B X) f
      (subst (λ (b : Book). P (cells_of B) (cells_of b) B b) (sym (fed_more z cs k)) p))

  -- a call
  pub carries : (k : Call) (s t : DoorState) (r : Result Answer DoorFault) → (r, t) ≡ called z s k → Carries z k s t r
  carries k s t r e cs f =
      let g = arrives cs k s t r f e in
      record {
        after = stands_after (cs ++ k ∷ []) t g;
        untouched = of_cells (Untouched z k) cs k s t f g (untouched z W (fed z cs) (whole z W cs).inv k);
        never_8 = subst Never8
            (ap (λ (x : DoorState). (called z x k).0) f ∙ sym (ap (λ (p : Result Answer DoorFault × DoorState). p.0) e))
            (never z W cs k);
      }

  -- what a call says and leaves
  pub recounts : (k : Call) (s t : DoorState) (r : Result Answer DoorFault) → (r, t) ≡ called z s k
      → Recounts z k s t r
  recounts k s t r e cs f =
      let g = arrives cs k s t r f e in
      record {
        spared = of_cells (LeavesFree z k) cs k s t f g (leaves_free z W (fed z cs) (whole z W cs).inv k);
        tells = replied s t r f (sym (ap (λ (p : Result Answer DoorFault × DoorState). p.1) e))
            (sym (ap (λ (p : Result Answer DoorFault × DoorState). p.0) e));
        grants = granted s r f (sym (ap (λ (p : Result Answer DoorFault × DoorState). p.0) e));
      }
    where
      replied : (s t : DoorState) (r : Result Answer DoorFault) → (fed z cs).board ≡ s → (called z s k).1 ≡ t
          → (called z s k).0 ≡ r → Tells z k s t (fed z cs) (fed z (cs ++ k ∷ [])) r
      replied s t r f p q =
          subst (λ (y : Result Answer DoorFault). Tells z k s t (fed z cs) (fed z (cs ++ k ∷ [])) y) q
          (subst (λ (y : DoorState). Tells z k s y (fed z cs) (fed z (cs ++ k ∷ [])) (called z s k).0) p
          (subst (λ (x : DoorState). Tells z k x (called z x k).1 (fed z cs) (fed z (cs ++ k ∷ []))
          (called z x k).0) f
          (subst (λ (d : Book). Tells z k (fed z cs).board (called z (fed z cs).board k).1 (fed z cs) d
          (called z (fed z cs).board k).0) (sym (fed_more z cs k)) (all_told z W (fed z cs) (whole z W cs).inv k))))

      granted : (s : DoorState) (r : Result Answer DoorFault) → (fed z cs).board ≡ s → (called z s k).0 ≡ r
          → Grants z k s (fed z cs) r
      granted s r f q =
          subst (λ (y : Result Answer DoorFault). Grants z k s (fed z cs) y) q
          (subst (λ (x : DoorState). Grants z k x (fed z cs) (called z x k).0) f
          (all_granted z W (fed z cs) (whole z W cs).inv k))

  -- a board that goes on with calls follows them too
  pub follows_on : (cs ks : List Call) (s : DoorState) → Follows z cs s → Follows z (cs ++ ks) (ran z s ks)
  unfolding fed
  follows_on cs ks s f = ap (λ (b : Book). b.board) (fed_append z new_book cs ks) ∙ ran_fed z (fed z cs) ks
      ∙ ap (λ (x : DoorState). ran z x ks) f

  -- every state on the way of a list of calls, and every call of it
  pub throughout : (cs ks : List Call) → CarriedThroughout z cs ks
  throughout cs ks = record {
    stands = λ before rest _ s f. (stands_after (cs ++ before) s f).stands;
    carried = λ before k rest _ s t r f e. carries k s t r e (cs ++ before) f;
  }

  -- the same of the states that a board in state s comes to, and what each call says and leaves
  pub recounted_throughout : (cs ks : List Call) (s : DoorState) → Follows z cs s → RecountedThroughout z cs ks s
  recounted_throughout cs ks s f = record {
    stands = λ before rest _. stands_after (cs ++ before) (ran z s before) (follows_on cs before s f);
    carried = λ before k rest _.
        carries k (ran z s before) _ _ refl (cs ++ before) (follows_on cs before s f);
    recounted = λ before k rest _.
        recounts k (ran z s before) _ _ refl (cs ++ before) (follows_on cs before s f);
  }

  -- from a new board on
  pub recounted_new : (ks : List Call) → RecountedThroughout z [] ks new_door
  unfolding fed
  recounted_new ks = recounted_throughout [] ks new_door refl

  -- a list of calls
  pub carries_all : (ks : List Call) (s t : DoorState) → t ≡ ran z s ks → CarriesAll z ks s t
  carries_all ks s t e cs f = (stands_after (cs ++ ks) t (follows_on cs ks s f ∙ sym e), throughout cs ks)

  -- what each of a list of calls says and leaves
  pub recounts_all : (ks : List Call) (s : DoorState) → RecountsAll z ks s
  recounts_all ks s cs f = recounted_throughout cs ks s f

  -- the line call
  pub lines_up : (s : DoorState) (place : List ℕ) (count : ℕ)
      → place ≡ placed (nodes_in_line s.lock.meaning s.lock.cards)
      → count ≡ length (nodes_in_line s.lock.meaning s.lock.cards) → LinesUp z s place count
  lines_up s place count p q cs f =
      let w : nodes_in_line s.lock.meaning s.lock.cards ≡ nodes_of (fed z cs).line
      = subst (λ (x : DoorState). nodes_in_line x.lock.meaning x.lock.cards ≡ nodes_of (fed z cs).line) f
      (line_is_walked z W (fed z cs) (whole z W cs).inv) in
      (p ∙ ap placed w, q ∙ ap length w ∙ length-map (fed z cs).line (λ (x : Place). x.node))
