-- A set of keys that are lent is written as the set of these keys.
use Rattle.std.proofs.Common.{◌≡◌, List, [], ◌∷◌, ◌++◌, length, All, refl, sym, ap, ◌∙◌}
use Rattle.std.specs.Prelude.{map, option_copied}
use Rattle.std.specs.List.{flat_map}
use Rattle.std.proofs.lemmas.List.{length-map}
use Rattle.std.proofs.lemmas.List.Concat.{flat_map-cons}
use Rattle.std.proofs.lemmas.List.Elements.{All-nil, All-cons, All-head, All-tail}
use Rattle.vol_types.specs.declared.keys.Key.{Key}
use Rattle.key_codec.specs.Formats.{u32_le}
use Rattle.key_codec.specs.Keys.{encoding}
use Rattle.record_codec.specs.declared.sets.KeyRef.{KeyRef}
use Rattle.record_codec.specs.declared.sets.SetHead.{SetHead}
use Rattle.record_codec.specs.Sets.{lent_key, lent_set, set_head, set_format}
use Rattle.record_codec.proofs.SetLaws.{set_encoded}

-- What holds of each key holds of each one that is lent.
pub all_lent : (P : Key → Type 0) (keys : List KeyRef) → All P (map lent_key keys) → All (λ key. P (lent_key key)) keys
all_lent P [] all = All-nil (λ key. P (lent_key key))
all_lent P (k ∷ keys) all =
    All-cons (λ key. P (lent_key key)) k keys (All-head P (lent_key k) (map lent_key keys) all) (all_lent P keys (All-tail P (lent_key k) (map lent_key keys) all))

lent_members : (keys : List KeyRef) → flat_map (λ key. encoding key.pos.now (option_copied key.value)) keys ≡ flat_map (λ key. encoding key.pos key.value) (map lent_key keys)
lent_members [] = refl
lent_members (k ∷ keys) =
    flat_map-cons (λ (key : KeyRef). encoding key.pos.now (option_copied key.value)) k keys
    ∙ ap (λ rest. encoding k.pos.now (option_copied k.value) ++ rest) (lent_members keys)
    ∙ sym (flat_map-cons (λ (key : Key). encoding key.pos key.value) (lent_key k) (map lent_key keys))

-- The set is encoded as its head, the number of its keys, and each key.
pub lent_encoded : (head : SetHead) (keys : List KeyRef) → set_head.encode head ++ (u32_le.encode (length keys) ++ flat_map (λ key. encoding key.pos.now (option_copied key.value)) keys) ≡ set_format.encode (lent_set head keys)
lent_encoded head keys =
    ap (λ members. set_head.encode head ++ (u32_le.encode (length keys) ++ members)) (lent_members keys)
    ∙ ap (λ n. set_head.encode head ++ (u32_le.encode n ++ flat_map (λ (key : Key). encoding key.pos key.value) (map lent_key keys))) (sym (length-map keys lent_key))
    ∙ set_encoded (lent_set head keys)
