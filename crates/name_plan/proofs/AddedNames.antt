-- A further name of a directory: the forest refuses it as the keys do, and it may stand beside those that showed.
use Rattle.std.proofs.Common.{◌≡◌, ℕ, Bool, true, false, cond, Option, Some, None, List, [], ◌∷◌, refl, sym, ap, ◌∙◌, subst, inl, inr, ⊎_elim, arith}
use Rattle.std.specs.Prelude.{◌⊎◌, Result, Ok, Err, is_ok, is_some, option_map}
use Rattle.std.proofs.lemmas.Bool.{false≢true}
use Rattle.std.proofs.lemmas.List.Elements.{All-weaker}
use Rattle.std.proofs.lemmas.Option.{none-some as none_some}
use Rattle.dirent_keys.specs.Links.{names_value, with_link}
use Rattle.dirent_keys.specs.Names.{has_name, is_full, refusal_of, step_to_add, updates_to_add}
use Rattle.dirent_keys.specs.declared.step.NameStep.{NameStep}
use Rattle.dirent_keys.specs.declared.step.NameStep.TheVariants as steps
use Rattle.forest_ops.specs.Refusals.{◌>>=◌, refused_if}
use Rattle.forest_ops.specs.declared.operation.Cause.{Cause}
use Rattle.forest_ops.specs.declared.operation.Cause.TheVariants.{Crowded, Exists}
use Rattle.key_meaning.specs.Forest.{link_named, links_in}
use Rattle.key_meaning.specs.SoundLaws.{IsIn}
use Rattle.key_steps.specs.Names.{AddsName}
use Rattle.key_steps.specs.Steps.{IsNewLink, MayStandUnder}
use Rattle.key_view.specs.Changes.{own_update, updates_to_see}
use Rattle.name_plan.proofs.FewUpdates.{AreFew, seen_few}
use Rattle.name_plan.specs.NameSteps.{step_made}
use Rattle.plain_forest.specs.Steps as plain
use Rattle.plain_forest.specs.declared.operation.Cause.{Cause as PlainCause}
use Rattle.plain_forest.specs.declared.operation.Cause.TheVariants as causes
use Rattle.vol_digest.specs.Digests.{slot_of}
use Rattle.vol_types.specs.Btrees.{btree_code}
use Rattle.vol_types.specs.KeyMaps.{KeyMap}
use Rattle.vol_types.specs.declared.keys.Update.{Update}
use Rattle.vol_types.specs.declared.positions.Btree.TheVariants.{Dirents}
use Rattle.vol_types.specs.declared.values.FileKind.{FileKind}
use Rattle.vol_types.specs.declared.values.Link.{Link}
use Rattle.vol_types.specs.declared.values.Value.TheVariants as values

-- what comes then of a check of the forest, where it is of a name
abbrev after_check : {X : Type 0} → Result (Unit {0}) PlainCause → Result X Cause → Result X Cause
after_check (Ok checked) next = next
after_check (Err causes.Exists) next = Err Exists
after_check (Err causes.Crowded) next = Err Crowded
after_check (Err other) next = next

-- A name is refused by the forest as it is by the keys.
pub checked_alike : {X : Type 0} (exists crowded : Bool) (step : NameStep) (next : Result X Cause) → plain.◌>>=◌ (plain.refused_if exists causes.Exists) (λ _. plain.refused_if crowded causes.Crowded) ≡ refusal_of step
    → (refused_if exists Exists >>= (λ _. refused_if crowded Crowded >>= (λ _. next))) ≡ (step_made step >>= (λ _. next))
checked_alike {X} exists crowded step next same = by exists crowded ∙ ap (λ checked. after_check checked next) same ∙ of_step step
  where
    by : (a b : Bool) → (refused_if a Exists >>= (λ _. refused_if b Crowded >>= (λ _. next))) ≡ after_check (plain.◌>>=◌ (plain.refused_if a causes.Exists) (λ _. plain.refused_if b causes.Crowded)) next
    by true b = refl
    by false true = refl
    by false false = refl

    of_step : (s : NameStep) → after_check (refusal_of s) next ≡ (step_made s >>= (λ _. next))
    of_step (steps.Done updates) = refl
    of_step steps.Exists = refl
    of_step steps.Crowded = refl

-- Names among which one is found make a value.
pub names_found : (name : List ℕ) (link : Link) (links : List Link) → link_named name links ≡ Some link → names_value links ≡ Some (values.Names links)
names_found name link [] found = absurd (none_some link found)
names_found name link (other ∷ links) found = refl

-- A name that isn't there has no link.
pub none_there : (o : Option Link) → is_some {T = ℕ × FileKind} (option_map (λ (l : Link). (l.number, l.kind)) o) ≡ false → o ≡ None
none_there None none = refl
none_there (Some l) none = absurd (false≢true (sym none))

-- The name doesn't show, and the updates put it beside those of its slot.
pub record IsAdded (keys : KeyMap) (id directory : ℕ) (link : Link) (updates : List Update) : Type 0 where
  pub free : link_named link.name (links_in keys id directory (slot_of link.name)) ≡ None
  pub adds : updates ≡ updates_to_add keys id directory link

-- A name that is added is so.
pub step_is_added : (keys : KeyMap) (id directory : ℕ) (link : Link) (updates : List Update) → step_made (step_to_add keys id directory link) ≡ Ok updates → IsAdded keys id directory link updates
step_is_added keys id directory link updates is = by (has_name keys id directory link.name) (is_full keys id directory (slot_of link.name)) refl is
  where
    updates_or : Result (List Update) Cause → List Update
    updates_or (Ok made) = made
    updates_or (Err cause) = []

    refused : {cause : Cause} → Err cause ≡ Ok updates → IsAdded keys id directory link updates
    refused same = absurd (false≢true (ap (λ (r : Result (List Update) Cause). is_ok r) same))

    by : (there full : Bool) → has_name keys id directory link.name ≡ there → step_made (cond there steps.Exists (cond full steps.Crowded (steps.Done (updates_to_add keys id directory link)))) ≡ Ok updates → IsAdded keys id directory link updates
    by true full has same = refused same
    by false true has same = refused same
    by false false has same = record { free = none_there (link_named link.name (links_in keys id directory (slot_of link.name))) has; adds = sym (ap updates_or same) }

-- Its updates are few,
pub few_added : (keys : KeyMap) (id directory : ℕ) (link : Link) (updates : List Update) → IsAdded keys id directory link updates → AreFew 1 updates
few_added keys id directory link updates added =
    subst (AreFew 1) (sym added.adds) (seen_few keys Dirents directory (slot_of link.name) id (names_value (with_link link (links_in keys id directory (slot_of link.name)))) (λ same. omega (arith, ap btree_code same)))

-- and in fact one.
pub added_is_own : (keys : KeyMap) (id directory : ℕ) (link : Link) (updates : List Update) → IsAdded keys id directory link updates
    → AddsName link (links_in keys id directory (slot_of link.name)) (with_link link (links_in keys id directory (slot_of link.name)))
    → updates ≡ own_update Dirents directory (slot_of link.name) id (Some (values.Names (with_link link (links_in keys id directory (slot_of link.name))))) ∷ []
added_is_own keys id directory link updates added adds =
    added.adds ∙ ap (updates_to_see keys Dirents directory (slot_of link.name) id) (names_found link.name link (with_link link (links_in keys id directory (slot_of link.name))) adds.found)

-- A further name may stand beside those that showed under its slot.
pub may_stand : (new : KeyMap) (id directory slot : ℕ) (link : Link) (links all : List Link) → links_in new id directory slot ≡ links → AddsName link links all → IsNewLink new link → MayStandUnder new id directory slot all
may_stand new id directory slot link links all shows adds may =
    All-weaker (λ (l : Link). (l ≡ link) ⊎ IsIn l links) (λ (l : Link). IsIn l (links_in new id directory slot) ⊎ IsNewLink new l)
    (λ l. ⊎_elim (λ same. inr (subst (IsNewLink new) (sym same) may)) (λ showed. inl (subst (IsIn l) (sym shows) showed))) all adds.members
