-- An image that a call changed agrees on the base of what was found, where what it may have touched is none of that.
use Rattle.std.proofs.Common.{◌≡◌, ◌⊎◌, inl, inr, ⊎_elim, ℕ, ◌+◌, ◌%◌, Bool, true, false, List, Option, Some, None, refl, ap, ◌∙◌, sym, subst}
use Rattle.std.proofs.lemmas.Bool.{false≢true}
use Rattle.std.proofs.lemmas.Option.{none-some, same_Some}
use Rattle.std.proofs.lemmas.Slice.Eq.{bytes_eq-Decides}
use Rattle.std.specs.Str.{bytes_eq}
use Rattle.dev_model.specs.Crashes.{SameBut}
use Rattle.dev_model.specs.Disk.{Image, block_at}
use Rattle.image_view.specs.Bases.{AgreeAt, AgreeOnBase, AgreeOnNodes}
use Rattle.image_view.specs.Found.{Found}
use Rattle.crash_safety.specs.Standing.{AgreeOnWriting}
use Rattle.crash_safety.specs.Writings.{Writing, after}
use Rattle.crash_safety.proofs.Images.{sizes}
use Rattle.crash_safety.proofs.OtherBlock.{no_block, sizes_with_block, with_block, with_block_at, with_block_elsewhere}

-- What stands at a place is the same, or it isn't.
same_or_not : (one other : Option (List ℕ)) → (one ≡ other) ⊎ ¬ (one ≡ other)
same_or_not None None = inl refl
same_or_not None (Some y) = inr (λ same. none-some y same)
same_or_not (Some x) None = inr (λ same. none-some x (sym same))
same_or_not (Some x) (Some y) = by (bytes_eq x y) refl
  where
    by : (test : Bool) → bytes_eq x y ≡ test → (Some x ≡ Some y) ⊎ ¬ (Some x ≡ Some y)
    by true is = inl (ap Some ((bytes_eq-Decides x y).0 is))
    by false is = inr (λ same. false≢true (sym is ∙ (bytes_eq-Decides x y).1 (same_Some x y same)))

module _ (touched : ℕ → ℕ → Type 0) (one before image : Image) (as_long : sizes one ≡ sizes image) (but : SameBut touched before image) where
  -- At a place on which each image agrees that was changed at those places alone, this one does too.
  agree_at : (d b : ℕ) → ((other : Image) → sizes one ≡ sizes other → SameBut touched one other → AgreeAt one other d b) → AgreeAt one before d b → AgreeAt one image d b
  agree_at d b law agree = ⊎_elim
      (λ (same : block_at one d b ≡ block_at image d b). same)
      (λ (differs : ¬ (block_at one d b ≡ block_at image d b)). absurd (differs (agree ∙ but d b (λ hit. differs (by hit (block_at image d b) refl)))))
      (same_or_not (block_at one d b) (block_at image d b))
    where
      by : touched d b → (held : Option (List ℕ)) → block_at image d b ≡ held → block_at one d b ≡ block_at image d b
      by hit None at = no_block one image d b as_long at ∙ sym at
      by hit (Some x) at =
          law (with_block d b x one) (sizes_with_block d b x one) (λ e c away. with_block_elsewhere d b x one e c (λ (same : (e ≡ d) × (c ≡ b)).
          away (subst (λ n. touched n c) (sym same.0) (subst (λ n. touched d n) (sym same.1) hit))))
          ∙ with_block_at one image d b x x as_long at
          ∙ sym at

  pub base_more : (f : Found) → ((other : Image) → sizes one ≡ sizes other → SameBut touched one other → AgreeOnBase f one other) → AgreeOnBase f one before → AgreeOnBase f one image
  base_more f law agree = record {
    lengths = as_long;
    first_copies = λ dev. agree_at dev 0 (λ h l s. (law h l s).first_copies dev) (agree.first_copies dev);
    second_copies = λ dev. agree_at dev 8 (λ h l s. (law h l s).second_copies dev) (agree.second_copies dev);
    even_sessions = λ dev mirror. agree_at dev 4 (λ h l s. (law h l s).even_sessions dev mirror) (agree.even_sessions dev mirror);
    odd_sessions = λ dev mirror. agree_at dev 5 (λ h l s. (law h l s).odd_sessions dev mirror) (agree.odd_sessions dev mirror);
    entries = λ k d lower dev number mirror from end. agree_at dev (16 + number % f.layout.journal) (λ h l s. (law h l s).entries k d lower dev number mirror from end) (agree.entries k d lower dev number mirror from end);
    nodes = λ k d lower j e low n few. agree_at _ _ (λ h l s. (law h l s).nodes k d lower j e low n few) (agree.nodes k d lower j e low n few);
  }

  -- So it agrees on the nodes of btrees.
  pub nodes_more : (g : Found) → ((other : Image) → sizes one ≡ sizes other → SameBut touched one other → AgreeOnNodes g one other) → AgreeOnNodes g one before → AgreeOnNodes g one image
  nodes_more g law agree = record {
    lengths = as_long;
    first_copies = λ dev. agree_at dev 0 (λ h l s. (law h l s).first_copies dev) (agree.first_copies dev);
    second_copies = λ dev. agree_at dev 8 (λ h l s. (law h l s).second_copies dev) (agree.second_copies dev);
    nodes = λ k d lower j e low n few. agree_at _ _ (λ h l s. (law h l s).nodes k d lower j e low n few) (agree.nodes k d lower j e low n few);
  }

  -- And on those of the entry that is written, if one is.
  pub writing_more : (f : Found) (writing : Option Writing) → ((other : Image) → sizes one ≡ sizes other → SameBut touched one other → AgreeOnWriting f writing one other) → AgreeOnWriting f writing one before → AgreeOnWriting f writing one image
  writing_more f None law agree = tt
  writing_more f (Some w) law agree = nodes_more (after w f) law agree
