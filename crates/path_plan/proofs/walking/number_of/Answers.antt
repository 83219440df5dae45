-- The number of what the name leads to.
use Rattle.std.proofs.Common.{◌≡◌, ◌∙◌, ap, refl, ℕ, Option, Some, None}
use Rattle.std.specs.Prelude.{option_map}
use Rattle.vol_types.specs.declared.values.FileKind.{FileKind}
use Rattle.vol_types.specs.declared.values.Link.{Link}
use Rattle.path_plan.proofs.walking.number_of.Goals as goal

number_of_link : (link : Option Link) → option_map (λ (t : ℕ × FileKind). t.0) (option_map (λ (l : Link). (l.number, l.kind)) link) ≡ option_map (λ (l : Link). l.number) link
number_of_link None = refl
number_of_link (Some l) = refl

pub returns-clause-leads : goal.returns-clause-leads
returns-clause-leads g c = λ keys seen. c.number_at.ensures ∙ ap (option_map (λ (t : ℕ × FileKind). t.0)) (c.in_ok-target.ensures.target keys seen) ∙ number_of_link _
