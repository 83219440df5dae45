-- What a crash may leave by what was in memory has the keys after some commit, and no fewer commits than were durable.
use Rattle.std.proofs.Common.{◌≡◌, ◌≤◌, ◌⊎◌, ⊎_elim, ◌∷◌, ◌++◌, ℕ, List, Option, Some, sym, subst, ◌∙◌, arith}
use Rattle.btree_map.specs.Trees.{keys_in}
use Rattle.core_volume.specs.Volumes.{Volume, changes_in, in_flight}
use Rattle.journal_writer.specs.ChangeLaws.{undone-leads}
use Rattle.journal_writer.specs.Changes.{LeadTo}
use Rattle.journal_writer.specs.Queues.{waiting}
use Rattle.journal_writer.specs.declared.changes.KeyChanges.{KeyChanges}
use Rattle.journal_writer.specs.declared.writer.Flight.{Flight}
use Rattle.image_view.specs.Found.{Found}
use Rattle.node_writeback.specs.Durable.{undurable}
use Rattle.vol_core.specs.Left.{IsDurableBase, IsFlightBase}
use Rattle.vol_types.specs.KeyMapLaws.{IsKeyMap-with_updates}
use Rattle.vol_types.specs.KeyMaps.{IsKeyMap, KeyMap, with_updates}
use Rattle.vol_session.specs.Marks.{AreMarked, IsAtMarks, IsMarkAt, commits_found}

-- Key maps from which the same changes lead to the same one are the same.
pub same_beginning : (changes : List KeyChanges) (one other last : KeyMap) → IsKeyMap one → IsKeyMap other → LeadTo changes one last → LeadTo changes other last → one ≡ other
same_beginning changes one other last one_is other_is from_one from_other = sym (undone-leads changes one last one_is from_one) ∙ undone-leads changes other last other_is from_other

module _ (begun : Found) (marks : List KeyMap) (volume : Volume) (at : IsAtMarks begun marks volume) (base : Found) (are_keys : IsKeyMap base.trees.keys) where
  -- The base's keys are those after its commits.
  abbrev IsMarked : Type 0
  IsMarked = IsMarkAt marks (commits_found begun) base.last.entry.commits base.trees.keys

  marked_as : (commits : ℕ) (keys : KeyMap) → base.last.entry.commits ≡ commits → base.trees.keys ≡ keys → IsMarkAt marks (commits_found begun) commits keys → IsMarked
  marked_as commits keys commits_are keys_are marked =
      subst (λ (n : ℕ). IsMarkAt marks (commits_found begun) n base.trees.keys) (sym commits_are) (subst (IsMarkAt marks (commits_found begun) commits) (sym keys_are) marked)

  durable_marked : IsDurableBase volume base → IsMarked
  durable_marked is =
      marked_as volume.writer.durable.commits at.durable is.commits (same_beginning (changes_in volume.writer.flight ++ waiting volume.queue) base.trees.keys at.durable (keys_in volume.trees) are_keys at.are_keys is.lead at.lead) at.at

  flight_marked : IsFlightBase volume base → IsMarked
  flight_marked is =
      let flight : Flight = is.flight in
      let after : KeyMap = with_updates flight.entry.changes.updates at.durable in
      let lead : LeadTo (flight.entry.changes ∷ waiting volume.queue) at.durable (keys_in volume.trees) =
      subst (λ (o : Option Flight). LeadTo (changes_in o ++ waiting volume.queue) at.durable (keys_in volume.trees)) is.flies at.lead in
      let entries : AreMarked marks (commits_found begun) at.durable (undurable (in_flight (Some flight)) volume.queue) =
      subst (λ (o : Option Flight). AreMarked marks (commits_found begun) at.durable (undurable (in_flight o) volume.queue)) is.flies at.entries in
      marked_as flight.entry.commits after is.commits
      (same_beginning (waiting volume.queue) base.trees.keys after (keys_in volume.trees) are_keys (IsKeyMap-with_updates flight.entry.changes.updates at.durable at.are_keys) is.lead (record { made = lead.made.1; last = lead.last }))
      entries.0

  -- What is left has the keys after its commits,
  pub base_marked : IsDurableBase volume base ⊎ IsFlightBase volume base → IsMarked
  base_marked live = ⊎_elim durable_marked flight_marked live

  durable_enough : IsDurableBase volume base → volume.writer.durable.commits ≤ base.last.entry.commits
  durable_enough is = let same = is.commits in omega (arith, same)

  flight_enough : IsFlightBase volume base → volume.writer.durable.commits ≤ base.last.entry.commits
  flight_enough is = let same = is.commits in let rise = is.rise in omega (arith, same, rise)

  -- and no fewer than are durable.
  pub base_enough : IsDurableBase volume base ⊎ IsFlightBase volume base → volume.writer.durable.commits ≤ base.last.entry.commits
  base_enough live = ⊎_elim durable_enough flight_enough live
