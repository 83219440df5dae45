-- The names of one slot are others then, or those of two slots, one after the other.
use Rattle.std.proofs.Common.{◌≡◌, Bool, refl, cond, List, sym, ap, ◌∙◌, subst, true, false}
use Rattle.dirent_keys.proofs.MoveSteps.{all_stand, done_is, left_stand, more_stand, moved_by, names_two, shown_apart, shown_together}
use Rattle.dirent_keys.proofs.Moved.{left_may, new_may, planned_apart}
use Rattle.dirent_keys.proofs.Ordered.{added_then_taken}
use Rattle.dirent_keys.proofs.Seeing.{held, may_share, names_show}
use Rattle.dirent_keys.proofs.Sounding.{shown_in_range}
use Rattle.dirent_keys.specs.Links.{names_value, with_link, without_name}
use Rattle.dirent_keys.specs.Moves.{share_slot, shown_moved}
use Rattle.dirent_keys.specs.Names.{updates_to_remove}
use Rattle.key_meaning.specs.Forest.{counter_in, links_in}
use Rattle.key_meaning.specs.Visible.{visible}
use Rattle.key_steps.specs.Shown.{Shown, kind_of, shown_in, with_links}
use Rattle.key_steps.specs.Steps.{IsNewLink, MayStandUnder, Steps}
use Rattle.key_view.specs.Changes.{updates_to_see}
use Rattle.vol_digest.specs.Digests.{slot_of}
use Rattle.vol_types.specs.KeyMapLaws.{with_updates-append}
use Rattle.vol_types.specs.KeyMaps.{KeyMap, with_updates}
use Rattle.vol_types.specs.declared.keys.Update.{Update}
use Rattle.vol_types.specs.declared.positions.Btree.TheVariants.{Dirents}
use Rattle.vol_types.specs.declared.values.Link.{Link}
use Rattle.dirent_keys.proofs.laws.moves_are_steps.Goals as goal

pub returns : goal.returns
returns c keys nodes layout id from name to link updates kept leaf source kind new named move step = by (share_slot from name to link.name) refl
  where
    there : List Link
    there = links_in keys id to (slot_of link.name)

    within : share_slot from name to link.name ≡ true → Steps keys (with_updates updates keys) nodes layout id (with_links to (slot_of link.name) (with_link link (without_name name there)) (shown_in keys id)) (counter_in keys)
    within one =
        let slot = slot_of link.name in
        let links = links_in keys id to slot in
        let rest = without_name name links in
        let all = with_link link rest in
        let value = names_value all in
        let done = done_is keys id from name to link updates step in
        let is : updates ≡ updates_to_see keys Dirents to slot id value = done.is ∙ ap (λ b. moved_by keys id from name to link b) one in
        subst (λ (us : List Update). Steps keys (with_updates us keys) nodes layout id (with_links to slot all (shown_in keys id)) (counter_in keys)) (sym is)
        (subst (λ (ls : List Link). Steps keys (with_updates (updates_to_see keys Dirents to slot id value) keys) nodes layout id (with_links to slot ls (shown_in keys id)) (counter_in keys)) (held all)
        (c.names_are_steps.ensures keys nodes layout id to slot value kept leaf (new_may keys id from name to link named done.free done.few (shown_in_range keys kept.drawn Dirents to slot id) true one) (names_show all) kind
        (subst (MayStandUnder keys id to slot) (sym (held all)) (more_stand keys id to slot link rest new (left_stand keys id to slot name)))))

    between : share_slot from name to link.name ≡ false
        → Steps keys (with_updates updates keys) nodes layout id (with_links to (slot_of link.name) (with_link link there) (with_links from (slot_of name) (without_name name (links_in keys id from (slot_of name))) (shown_in keys id))) (counter_in keys)
    between two =
        let slot = slot_of link.name in
        let links = links_in keys id to slot in
        let all = with_link link links in
        let value = names_value all in
        let old = links_in keys id from (slot_of name) in
        let rest = without_name name old in
        let done = done_is keys id from name to link updates step in
        let middle = with_updates (updates_to_remove keys id from name) keys in
        let put = updates_to_see keys Dirents to slot id value in
        let first : Steps keys middle nodes layout id (with_links from (slot_of name) rest (shown_in keys id)) (counter_in keys) =
        subst (λ (ls : List Link). Steps keys middle nodes layout id (with_links from (slot_of name) ls (shown_in keys id)) (counter_in keys)) (held rest)
        (c.names_are_steps.ensures keys nodes layout id from (slot_of name) (names_value rest) kept leaf (left_may keys id from name (shown_in_range keys kept.drawn Dirents from (slot_of name) id)) (names_show rest) source
        (subst (MayStandUnder keys id from (slot_of name)) (sym (held rest)) (left_stand keys id from (slot_of name) name))) in
        let same : links_in middle id to slot ≡ links = ap (λ (s : Shown). s.links to slot) first.shows ∙ ap (λ b. cond b rest links) two in
        let stays : IsNewLink middle link = record { good = new.good; drawn = first.drawn link.number new.drawn } in
        let stand : MayStandUnder middle id to slot all = more_stand middle id to slot link links stays (subst (MayStandUnder middle id to slot) same (all_stand middle id to slot)) in
        let second : Steps middle (with_updates (updates_to_see middle Dirents to slot id value) middle) nodes layout id (with_links to slot all (shown_in middle id)) (counter_in middle) =
        subst (λ (ls : List Link). Steps middle (with_updates (updates_to_see middle Dirents to slot id value) middle) nodes layout id (with_links to slot ls (shown_in middle id)) (counter_in middle)) (held all)
        (c.names_are_steps.ensures middle nodes layout id to slot value first.kept (c.steps_follow_each_other.ensures.leaf keys middle nodes layout id _ _ first leaf)
        (new_may keys id from name to link named done.free done.few (shown_in_range keys kept.drawn Dirents to slot id) false two) (names_show all)
        (ap (λ (s : Shown). kind_of s to) first.shows ∙ kind) (subst (MayStandUnder middle id to slot) (sym (held all)) stand)) in
        let new_keys : with_updates (updates_to_see middle Dirents to slot id value) middle ≡ with_updates updates keys =
        ap (λ (us : List Update). with_updates us middle) (planned_apart middle keys to slot id link links)
        ∙ sym (with_updates-append (updates_to_remove keys id from name) put keys)
        ∙ ap (λ (us : List Update). with_updates us keys) (sym (done.is ∙ ap (λ b. moved_by keys id from name to link b) two)) in
        subst (λ (k : KeyMap). Steps keys k nodes layout id (with_links to slot all (with_links from (slot_of name) rest (shown_in keys id))) (counter_in keys)) new_keys
        (c.steps_follow_each_other.ensures.then keys middle (with_updates (updates_to_see middle Dirents to slot id value) middle) nodes layout id (with_links from (slot_of name) rest (shown_in keys id)) (counter_in keys) (with_links to slot all) first second)

    by : (b : Bool) → share_slot from name to link.name ≡ b → Steps keys (with_updates updates keys) nodes layout id (shown_moved keys id from name to link) (counter_in keys)
    by true one =
        subst (λ (shown : Shown). Steps keys (with_updates updates keys) nodes layout id shown (counter_in keys))
        (shown_together keys id from name to link one
        (added_then_taken link name there (names_two keys id from name to link one (done_is keys id from name to link updates step).free move)
        (may_share (visible keys Dirents to (slot_of link.name) id) (shown_in_range keys kept.drawn Dirents to (slot_of link.name) id)).rise))
        (within one)
    by false two =
        subst (λ (shown : Shown). Steps keys (with_updates updates keys) nodes layout id shown (counter_in keys)) (shown_apart keys id from name to link two) (between two)
