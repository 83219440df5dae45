-- How the names that show under one slot change.
use Rattle.std.specs.Prelude.{◌≡◌, ◌≢◌, ◌⊎◌, ℕ, None, Some, List, All}
use Rattle.vol_types.specs.declared.values.Link.{Link}
use Rattle.key_meaning.specs.Changes.{KeepsOtherNames}
use Rattle.key_meaning.specs.Forest.{link_named}
use Rattle.key_meaning.specs.SoundLaws.{IsIn}

-- The new names are the old ones with a further one.
pub record AddsName (link : Link) (old new : List Link) : Type 0 where
  pub found : link_named link.name new ≡ Some link
  pub others : KeepsOtherNames old new link.name
  pub members : All (λ (other : Link). (other ≡ link) ⊎ IsIn other old) new

-- The new names are the old ones but for this one.
pub record TakesName (name : List ℕ) (old new : List Link) : Type 0 where
  pub found : link_named name new ≡ None
  pub others : KeepsOtherNames old new name
  pub gone : All (λ (link : Link). link.name ≢ name) new
  pub members : All (λ (other : Link). IsIn other old) new
