-- What is meant, what was found or that with the entry that is written, is one of the bases: the last of them, or the one before it.
use Rattle.std.proofs.Common.{◌≡◌, inl, inr, ℕ, suc, List, [], ◌∷◌, ◌++◌, length, slice_get, Option, Some, None, refl, sym, ap, ◌∙◌, arith}
use Rattle.std.proofs.lemmas.Option.{slice_get_within}
use Rattle.dev_model.specs.Disk.{Image}
use Rattle.image_view.specs.Found.{Found}
use Rattle.crash_safety.specs.Safety.{AreBases, MeansOneOf}
use Rattle.crash_safety.specs.Writings.{Writing, after}
use Rattle.crash_safety.proofs.Meanings.{IsMeantBy}

at_length : (before : List Found) (x : Found) (rest : List Found) → slice_get (before ++ x ∷ rest) (length before) ≡ Some x
at_length [] x rest = refl
at_length (y ∷ before) x rest = at_length before x rest

behind_length : (before : List Found) (x y : Found) (rest : List Found) → slice_get (before ++ x ∷ y ∷ rest) (suc (length before)) ≡ Some y
behind_length [] x y rest = refl
behind_length (z ∷ before) x y rest = behind_length before x y rest

-- What is meant is the last of these, or the one before it.
pub one_of : (f : Found) (writing : Option Writing) (bases : List Found) (durable : List ℕ) → AreBases f writing bases durable → (moment : ℕ) (image : Image) → IsMeantBy f writing image → MeansOneOf bases durable moment image
one_of f None bases durable are moment image meant = record {
  index = length durable;
  base = f;
  at = ap (λ (bs : List Found). slice_get bs (length durable)) are.are ∙ ap (slice_get (are.before ++ f ∷ [])) (sym are.count) ∙ at_length are.before f [];
  finds = meant.finds;
  in_order = meant.in_order;
  none_before = λ k m there by_then. slice_get_within durable k m there;
}
one_of f (Some w) bases durable are moment image (inl meant) = record {
  index = length durable;
  base = f;
  at = ap (λ (bs : List Found). slice_get bs (length durable)) are.are ∙ ap (slice_get (are.before ++ f ∷ after w f ∷ [])) (sym are.count) ∙ at_length are.before f (after w f ∷ []);
  finds = meant.finds;
  in_order = meant.in_order;
  none_before = λ k m there by_then. slice_get_within durable k m there;
}
one_of f (Some w) bases durable are moment image (inr meant) = record {
  index = suc (length durable);
  base = after w f;
  at = ap (λ (bs : List Found). slice_get bs (suc (length durable))) are.are ∙ ap (λ n. slice_get (are.before ++ f ∷ after w f ∷ []) (suc n)) (sym are.count) ∙ behind_length are.before f (after w f) [];
  finds = meant.finds;
  in_order = meant.in_order;
  none_before = λ k m there by_then. let within = slice_get_within durable k m there in omega (arith, within);
}
