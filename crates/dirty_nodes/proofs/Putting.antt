-- A pin in the place of what its node pinned.
use Rattle.std.proofs.Common.{◌≡◌, ℕ, Bool, true, false, cond, Option, Some, None, List, refl, sym, ap, ◌∙◌}
use Rattle.std.specs.BTreeMap.{is_at}
use Rattle.std.specs.Ordering.{nat_cmp}
use Rattle.std.proofs.lemmas.Cmp.{nat_cmp_total}
use Rattle.std.proofs.lemmas.Map.Lookups.{exact_unsigned}
use Rattle.birth_index.specs.NameLaws.{birth_itself}
use Rattle.pin_list.specs.Pins.{smaller, with_pin}
use Rattle.vol_types.specs.MapLaws.{IsMap-with_value, IsMap-without, same_maps, value_at-with_value, value_at-without}
use Rattle.vol_types.specs.Maps.{IsMap, value_at, with_value, without}

-- What was put at a node is there whether or not it was released before.
put-released : (node seq : ℕ) (numbers : List (ℕ × ℕ)) → IsMap nat_cmp numbers → with_value nat_cmp node seq (without nat_cmp node numbers) ≡ with_value nat_cmp node seq numbers
put-released node seq numbers rises =
    same_maps nat_cmp_total exact_unsigned (with_value nat_cmp node seq (without nat_cmp node numbers)) (with_value nat_cmp node seq numbers)
    (IsMap-with_value nat_cmp_total node seq (without nat_cmp node numbers) (IsMap-without nat_cmp_total node numbers rises)) (IsMap-with_value nat_cmp_total node seq numbers rises)
    (λ key.
    value_at-with_value nat_cmp_total node seq key (without nat_cmp node numbers)
    ∙ ap (cond (is_at (nat_cmp node) key) (Some seq)) (value_at-without nat_cmp_total node key numbers rises)
    ∙ covered (is_at (nat_cmp node) key) (value_at nat_cmp key numbers)
    ∙ sym (value_at-with_value nat_cmp_total node seq key numbers))
  where
    covered : (here : Bool) (o : Option ℕ) → cond here (Some seq) (cond here None o) ≡ cond here (Some seq) o
    covered true o = refl
    covered false o = refl

-- A node that was released pins what it is pinned at.
pub pin-released : (node seq : ℕ) (numbers released new : List (ℕ × ℕ)) → IsMap nat_cmp numbers → released ≡ without nat_cmp node numbers → new ≡ with_pin node seq released → new ≡ with_value nat_cmp node seq numbers
pin-released node seq numbers released new rises gone pinned =
    let nothing : value_at nat_cmp node (without nat_cmp node numbers) ≡ None =
    value_at-without nat_cmp_total node node numbers rises ∙ ap (λ (b : Bool). cond b None (value_at nat_cmp node numbers)) (birth_itself node) in
    pinned ∙ ap (with_pin node seq) gone ∙ ap (λ (o : Option ℕ). with_value nat_cmp node (smaller seq o) (without nat_cmp node numbers)) nothing ∙ put-released node seq numbers rises
