-- Steps but for the keys on space follow each other.
use Rattle.std.proofs.Common.{ℕ, Option, List, sym, ap, ◌∙◌}
use Rattle.content_steps.specs.Steps.{StepsButSpace}
use Rattle.key_meaning.specs.ChangeLaws.{changes_then}
use Rattle.key_meaning.specs.Checks.{IsLiveLeaf}
use Rattle.key_meaning.specs.Forest.{counter_in}
use Rattle.key_meaning.specs.SameLaws.{live_leaf_was}
use Rattle.key_steps.specs.Shown.{Shown, shown_in}
use Rattle.key_steps.specs.Steps.{Steps}
use Rattle.vol_types.specs.KeyMaps.{KeyMap}
use Rattle.vol_types.specs.declared.layout.Layout.{Layout}
use Rattle.vol_types.specs.declared.pointers.Place.{Place}

-- Steps are such ones,
pub steps_are : (keys new : KeyMap) (nodes : List Place) (layout : Layout) (id : ℕ) (shown : Shown) (counters : ℕ → Option ℕ) → Steps keys new nodes layout id shown counters → StepsButSpace keys new nodes layout id shown counters
steps_are keys new nodes layout id shown counters steps = record { kept = steps.kept; only = steps.only; shows = steps.shows; counts = steps.counts; drawn = steps.drawn }

-- such ones after such ones change what these show,
pub change_then : (keys middle new : KeyMap) (nodes : List Place) (layout : Layout) (id : ℕ) (one : Shown) (counters : ℕ → Option ℕ) (change : Shown → Shown) → StepsButSpace keys middle nodes layout id one counters
    → StepsButSpace middle new nodes layout id (change (shown_in middle id)) (counter_in middle) → StepsButSpace keys new nodes layout id (change one) counters
change_then keys middle new nodes layout id one counters change first second = record {
  kept = second.kept;
  only = changes_then keys middle new id first.only second.only;
  shows = second.shows ∙ ap change first.shows;
  counts = second.counts ∙ first.counts;
  drawn = λ number drawn. second.drawn number (first.drawn number drawn);
}

-- and a live leaf stays one.
pub leaf_then : (keys new : KeyMap) (nodes : List Place) (layout : Layout) (id : ℕ) (shown : Shown) (counters : ℕ → Option ℕ) → StepsButSpace keys new nodes layout id shown counters → IsLiveLeaf keys id → IsLiveLeaf new id
leaf_then keys new nodes layout id shown counters steps leaf = live_leaf_was new keys (sym steps.only.snaps) id leaf
