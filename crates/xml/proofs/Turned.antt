-- The next tag of an element, put together: what leads to the tag, and then the tag.
use Rattle.std.specs.Prelude.{Option, Some, None, Result, Ok, Err}
use Rattle.std.specs.Borrow.{Bor}
use mathlib.Core.Path.{◌≡◌, ap, ◌∙◌, subst}
use mathlib.Core.Bool.{Bool, true, cond}
use mathlib.Core.List.{List, [], ◌∷◌}
use Prim.Native.Nat.{ℕ, ◌-◌, ◌<◌, ◌≤◌}
use native.Mathlib.Omega.{arith}
use lib.ListN.{length, drop, get_or}
use Rattle.xml.specs.Bytes.{is_ascii_letter}
use Rattle.xml.specs.CheckSteps.{Mode, name, content, opens, State, stop, at, leave, outside, form_step, broken, ended, form_run}
use Rattle.xml.specs.ScanSteps.{held, Reaches, Scans, Between, Starts, ToldAhead, OpensIf, Turns, goes_on, told, start_state}
use Rattle.xml.specs.declared.FormError.{FormError}
use Rattle.xml.specs.declared.Turn.{Turn}
use Rattle.xml.specs.declared.Turn.TheVariants.{Opened, Inside, Outside}

later : (i j n : ℕ) → i ≤ j → (r : Result (Turn × ℕ) FormError) → ToldAhead j n r → ToldAhead i n r
later i j n h (Ok p) x = (omega arith, x.1)
later i j n h (Err u) x = x

may_open : (b c : Bool) → (b ≡ true → c ≡ true) → (r : Result (Turn × ℕ) FormError) → OpensIf b r → OpensIf c r
may_open b c g (Ok (Opened m, j)) x = g x
may_open b c g (Ok (Inside, j)) x = tt
may_open b c g (Ok (Outside, j)) x = tt
may_open b c g (Err u) x = tt

-- content up to its next `<`
module _ {t : List ℕ} {i : ℕ} {some : Bool} where
  pub reaches : (o : Bool) (j : ℕ) → Scans t i (at (content (held some))) (at (opens o)) (Ok j) → Reaches t i some (Ok (o, j))
  reaches o j x = record { runs = x.runs; ends = x.ends }

  pub reaches_not : {to : List (List ℕ) → State} (u : FormError) → Scans t i (at (content (held some))) to (Err u) → Reaches t i some (Err u)
  reaches_not u x = record { runs = x.runs; ends = x.ends }

module _ {t : List ℕ} {i : ℕ} {n : List ℕ} {begins : Bool} {around : List (List ℕ) → Type 0} where
  -- what leads to the tag, and then the tag
  pub turns_after : {a b : List (List ℕ) → State} {r : Result (Turn × ℕ) FormError} (may : Bool) {inner : List (List ℕ) → Type 0} (j : ℕ) → (may ≡ true → begins ≡ true)
      → ((ns : List (List ℕ)) → around ns → inner ns) → ((ns : List (List ℕ)) → form_run (a ns) (drop i t) ≡ form_run (b ns) (drop j t)) → i ≤ j
      → Turns t j n may b inner r → Turns t i n begins a around r
  turns_after {r = r} may j h f e l y =
      record { runs = λ ns g. e (n ∷ ns) ∙ y.runs ns (f ns g); ends = later i j (length t) l r y.ends; opens_if = may_open may begins h r y.opens_if }

  pub turns_broken : {a : List (List ℕ) → State} (u : FormError) → ((ns : List (List ℕ)) → form_run (a ns) (drop i t) ≡ broken (length t - u.front)) → u.front ≤ length t
      → Turns t i n begins a around (Err u)
  turns_broken u e h = record { runs = λ ns g. e (n ∷ ns); ends = h; opens_if = tt }

  -- an end tag, read from j on
  module _ {a b : List (List ℕ) → State} {r : Result ℕ FormError} (j : ℕ) (h : i < j) (e : (ns : List (List ℕ)) → form_run (a (n ∷ ns)) (drop i t) ≡ form_run (b (n ∷ ns)) (drop j t))
      (x : Scans t j b leave r) where
    pub turns_outside : (k : ℕ) → r ≡ Ok k → Turns t i n begins a around (Ok (Outside, k))
    unfolding leave
    turns_outside k g =
        let z : (j ≤ k) × (k ≤ length t) = subst (Between j (length t)) g x.ends in
        record { runs = λ ns _. e ns ∙ x.runs (n ∷ ns) ∙ ap (goes_on t (leave (n ∷ ns))) g; ends = (omega arith, z.1); opens_if = tt }

    pub turns_left : (u : FormError) → r ≡ Err u → Turns t i n begins a around (Err u)
    turns_left u g = record { runs = λ ns _. e ns ∙ x.runs (n ∷ ns) ∙ ap (goes_on t (leave (n ∷ ns))) g; ends = subst (Between j (length t)) g x.ends; opens_if = tt }

  -- a start tag, at a place p where one may begin
  module _ (p : Mode) (m : ended p ≡ broken 0) (yes : begins ≡ true)
      (may : (ns : List (List ℕ)) → around ns → form_step p (n ∷ ns) (get_or t i 0) ≡ cond (is_ascii_letter (get_or t i 0)) (at (name (get_or t i 0 ∷ [])) (n ∷ ns)) stop)
      {r : Result (Option (Bor (List ℕ)) × ℕ) FormError} (x : Starts t i r) where
    pub turns_opened : (o : Bor (List ℕ)) (j : ℕ) → r ≡ Ok (Some o, j) → Turns t i n begins (at p) around (Ok (Opened o, j))
    turns_opened o j g =
        record {
          runs = λ ns f. x.runs p (n ∷ ns) m (may ns f) ∙ ap (told t (start_state (n ∷ ns))) g;
          ends = subst (ToldAhead i (length t)) g x.ends;
          opens_if = yes;
        }

    pub turns_inside : (j : ℕ) → r ≡ Ok (None, j) → Turns t i n begins (at p) around (Ok (Inside, j))
    unfolding outside
    turns_inside j g =
        record {
          runs = λ ns f. x.runs p (n ∷ ns) m (may ns f) ∙ ap (told t (start_state (n ∷ ns))) g;
          ends = subst (ToldAhead i (length t)) g x.ends;
          opens_if = tt;
        }

    pub turns_cut : (u : FormError) → r ≡ Err u → Turns t i n begins (at p) around (Err u)
    turns_cut u g = record { runs = λ ns f. x.runs p (n ∷ ns) m (may ns f) ∙ ap (told t (start_state (n ∷ ns))) g; ends = subst (ToldAhead i (length t)) g x.ends; opens_if = tt }
