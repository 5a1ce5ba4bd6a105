-- `klapouzen_check_form` meets its contract: what the form check answers, and the front.
use mathlib.Core.Path.{◌∙◌, ap, sym}
use Rattle.refusals.specs.Refusals.{shown_number}
use Rattle.refusals.proofs.Refusing.{refuses_answer}
use Rattle.xml.specs.CheckSteps.{require_form}
use Rattle.xml.proofs.Checked.{OfText, of_form}
use Rattle.api.proofs.Showing.{by_answer}
use Rattle.api.proofs.Fronts.{no_front, refused_front, form_number}
use Rattle.api.proofs.files.klapouzen_check_form.Goals as goal

pub returns : goal.returns
returns c =
    let s = c.args.text.now in
    by_answer c.form.result c.tell.ensures
    (λ v e p. record { refusal = form_number s (p.0 ∙ ap shown_number (e ∙ c.form.ensures)); place = rw (p.0, p.1) no_front })
    (λ r e q.
    record {
      refusal = form_number s (q.0 ∙ ap shown_number (e ∙ c.form.ensures));
      place = refused_front r (of_form s _ (refuses_answer (OfText s) tt)) (e ∙ c.form.ensures) q.0 q.1.1;
    })
