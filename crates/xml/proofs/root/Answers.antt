-- `root` meets its contract: white space, `<`, and a start tag.
use Rattle.std.specs.Prelude.{Some, None, Ok}
use Rattle.std.proofs.lemmas.Result.{err_from_is_err_and}
use mathlib.Core.List.{List, []}
use mathlib.Core.Path.{◌≡◌, refl, ap, ◌∙◌}
use mathlib.Core.Bool.{false}
use Prim.Native.Nat.{ℕ, ◌+◌}
use native.Mathlib.Omega.{arith}
use lib.ListN.{get_or}
use borrow.Author.Tests.{ne_eqb}
use Rattle.xml.specs.Bytes.{is_space}
use Rattle.xml.specs.CheckSteps.{at, before, root, outside, form_step, ended}
use Rattle.xml.specs.ScanSteps.{Past, Scans, told, start_state}
use Rattle.xml.proofs.Past.{past_not}
use Rattle.xml.proofs.Stays.{before_stay}
use Rattle.xml.proofs.Scanned.{stands, scan_past, scan_on, scan_done, scan_refused}
use Rattle.xml.proofs.Tagged.{tells}
use Rattle.xml.proofs.root.Goals as goal

-- white space, and then `<`
opened : {t : List ℕ} {i j : ℕ} (b : ℕ) → Past is_space t i j → b ≡ get_or t j 0 → b ≡ 60 → Scans t i (at before) (at root) (Ok (j + 1))
unfolding form_step is_space
opened {t} {j = j} b e g h =
    let l = stands t j b g (omega (arith, h)) in
    scan_past before_stay e (scan_on b g (omega (arith, h)) (λ ns. ap (form_step before ns) h) (scan_done (omega (arith, l))))

pub returns-then-byte-ne60 : goal.returns-then-byte-ne60
unfolding form_step is_space ended
returns-then-byte-ne60 c =
    let e = c.past_spaces-begin.ensures in
    let s : is_space c.byte.result ≡ false = ap is_space c.byte.ensures ∙ past_not e refl in
    let x = scan_past {to = at root} before_stay e (scan_refused c.byte.result c.byte.ensures e.inside refl (λ ns. simp (s, ne_eqb _ _ c.if-byte-ne60.true))) in
    record { runs = x.runs []; ends = x.ends }

pub start_tag-requires : goal.start_tag-requires
start_tag-requires c =
    let l = stands c.args.text.now c.past_spaces-begin.result c.byte.result c.byte.ensures (omega (arith, c.if-byte-ne60.false)) in
    omega (arith, l)

pub returns-in-Some-default : goal.returns-in-Some-default
unfolding form_step ended
returns-in-Some-default c =
    let t = c.args.text.now in
    let x = opened c.byte.result c.past_spaces-begin.ensures c.byte.ensures c.if-byte-ne60.false in
    let y = c.elements.ensures in
    record {
      runs =
          x.runs [] ∙ c.start_tag.ensures.runs root [] refl refl
          ∙ ap (told t (start_state [])) (tells c.in_ok-name.field-0 (Some c.in-Some-default.name) c.in_ok-name.was c.in-Some-default.is-0) ∙ y.runs;
      ends = y.ends;
    }

pub returns-in-None-default : goal.returns-in-None-default
unfolding form_step ended outside
returns-in-None-default c =
    let t = c.args.text.now in
    let x = opened c.byte.result c.past_spaces-begin.ensures c.byte.ensures c.if-byte-ne60.false in
    let y = c.finish.ensures in
    record {
      runs =
          x.runs [] ∙ c.start_tag.ensures.runs root [] refl refl
          ∙ ap (told t (start_state [])) (tells c.in_ok-name.field-0 None c.in_ok-name.was c.in-None-default.is-0) ∙ y.runs;
      ends = y.ends;
    }

pub returns-in_err-name : goal.returns-in_err-name
unfolding form_step ended
returns-in_err-name c =
    let t = c.args.text.now in
    let x = opened c.byte.result c.past_spaces-begin.ensures c.byte.ensures c.if-byte-ne60.false in
    let p = err_from_is_err_and c.from_residual.result c.from_residual.ensures.1 in
    rw (p.1, p.2)
    (record {
      runs = x.runs [] ∙ c.start_tag.ensures.runs root [] refl refl ∙ ap (told t (start_state [])) c.in_err-name.was;
      ends = (c.in_err-name.ensures).ends;
    })
