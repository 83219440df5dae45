-- Steps follow each other, and a live leaf stays one.
use Rattle.std.proofs.Common.{ℕ, Option, List, refl, sym, ap, ◌∙◌}
use Rattle.key_meaning.specs.ChangeLaws.{changes_nothing, changes_then}
use Rattle.key_meaning.specs.Checks.{IsLiveLeaf}
use Rattle.key_meaning.specs.Forest.{counter_in}
use Rattle.key_meaning.specs.SameLaws.{live_leaf_was}
use Rattle.key_steps.specs.Kept.{IsKept}
use Rattle.key_steps.specs.Shown.{Shown, shown_in}
use Rattle.key_steps.specs.Steps.{Steps}
use Rattle.vol_types.specs.KeyMaps.{KeyMap}
use Rattle.vol_types.specs.declared.layout.Layout.{Layout}
use Rattle.vol_types.specs.declared.pointers.Place.{Place}

-- Kept keys are where no step leads,
pub no_step : (keys : KeyMap) (nodes : List Place) (layout : Layout) (id : ℕ) → IsKept keys nodes layout → Steps keys keys nodes layout id (shown_in keys id) (counter_in keys)
no_step keys nodes layout id kept = record { kept = kept; only = changes_nothing keys id; shows = refl; counts = refl; drawn = λ number drawn. drawn; space = λ counted. counted }

-- steps after steps are steps,
pub steps_then : (keys middle new : KeyMap) (nodes : List Place) (layout : Layout) (id : ℕ) (one other : Shown) (before after : ℕ → Option ℕ) → Steps keys middle nodes layout id one before → Steps middle new nodes layout id other after → Steps keys new nodes layout id other after
steps_then keys middle new nodes layout id one other before after first second = record {
  kept = second.kept;
  only = changes_then keys middle new id first.only second.only;
  shows = second.shows;
  counts = second.counts;
  drawn = λ number drawn. second.drawn number (first.drawn number drawn);
  space = λ counted. second.space (first.space counted);
}

-- and change what the first ones show,
pub change_then : (keys middle new : KeyMap) (nodes : List Place) (layout : Layout) (id : ℕ) (one : Shown) (counters : ℕ → Option ℕ) (change : Shown → Shown) → Steps keys middle nodes layout id one counters → Steps middle new nodes layout id (change (shown_in middle id)) (counter_in middle) → Steps keys new nodes layout id (change one) counters
change_then keys middle new nodes layout id one counters change first second = record {
  kept = second.kept;
  only = changes_then keys middle new id first.only second.only;
  shows = second.shows ∙ ap change first.shows;
  counts = second.counts ∙ first.counts;
  drawn = λ number drawn. second.drawn number (first.drawn number drawn);
  space = λ counted. second.space (first.space counted);
}

-- and a live leaf stays one.
pub leaf_then : (keys new : KeyMap) (nodes : List Place) (layout : Layout) (id : ℕ) (shown : Shown) (counters : ℕ → Option ℕ) → Steps keys new nodes layout id shown counters → IsLiveLeaf keys id → IsLiveLeaf new id
leaf_then keys new nodes layout id shown counters steps leaf = live_leaf_was new keys (sym steps.only.snaps) id leaf
