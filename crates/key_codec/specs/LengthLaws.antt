-- How long the encoding of a key is.
use Rattle.std.proofs.Common.{◌≡◌, ℕ, ◌+◌, ◌*◌, List, [], ◌∷◌, length, Option, None, Some, refl, ◌∙◌, length-append, arith}
use Rattle.std.specs.Prelude.{sum_by}
use Rattle.std.specs.List.{flat_map}
use Rattle.std.proofs.lemmas.List.Concat.{length-flat_map}
use Rattle.std.proofs.lemmas.List.Sums.{sum_by-cons}
use Rattle.vol_types.specs.declared.pointers.NodePtr.{NodePtr}
use Rattle.vol_types.specs.declared.pointers.Place.{Place}
use Rattle.vol_types.specs.declared.pointers.Pointer.{Pointer}
use Rattle.vol_types.specs.declared.positions.Pos.{Pos}
use Rattle.vol_types.specs.declared.values.Extent.{Extent as AnExtent}
use Rattle.vol_types.specs.declared.values.Inode.{Inode as AnInode}
use Rattle.vol_types.specs.declared.values.Link.{Link}
use Rattle.vol_types.specs.declared.values.Sub.{Sub}
use Rattle.vol_types.specs.declared.values.Value.{Value}
use Rattle.vol_types.specs.declared.values.Value.TheVariants.{Inode, Names, Extent, Hole, White, Subs, Snap, Live, Back, Gone, Counter, Node}
use Rattle.vol_types.specs.Lengths.{key_length_of, link_length, sub_length}
use Rattle.key_codec.specs.Formats.{u8_byte, u32_le, u64_le, raw, ranged, items, counted}
use Rattle.key_codec.specs.Kinds.{position, file_kind, snap_state, flag, name, inode_fields, link_item, names_fields, pointer_item, digest_item, extent_fields, hole_fields, sub_item, subs_fields, snap_fields, live_fields, place_item, node_fields}
use Rattle.key_codec.specs.Keys.{kind_number, fields_of, key_format, encoding}

-- The encoding of a list is as long as its members' encodings.
pub length-members : {A : Type 0} (encode : A → List ℕ) (size : A → ℕ) (xs : List A) → ((x : A) → length (encode x) ≡ size x) → length (flat_map encode xs) ≡ sum_by size xs
length-members encode size xs same = length-flat_map encode xs ∙ (λ i. sum_by (λ x. same x i) xs)

sum_by-constant : {A : Type 0} (n : ℕ) (xs : List A) → sum_by (λ _. n) xs ≡ n * length xs
sum_by-constant n [] = omega arith
sum_by-constant n (x ∷ xs) = omega (arith, sum_by-cons (λ _. n) x xs, sum_by-constant n xs)

-- Where all members take so many bytes, the list takes that many for each.
length-alike : {A : Type 0} (encode : A → List ℕ) (n : ℕ) (xs : List A) → ((x : A) → length (encode x) ≡ n) → length (flat_map encode xs) ≡ n * length xs
length-alike encode n xs same = length-members encode (λ _. n) xs same ∙ sum_by-constant n xs

pub length-position : (pos : Pos) → length (position.encode pos) ≡ 20
unfolding position u32_le u64_le
length-position pos = refl

length-link : (link : Link) → length ((link_item None).encode link) ≡ link_length link
unfolding link_item name file_kind ranged raw u8_byte u64_le
length-link link = omega arith

length-sub : (sub : Sub) → length ((sub_item None).encode sub) ≡ sub_length sub
unfolding sub_item name flag ranged raw u8_byte u32_le u64_le
length-sub sub = omega arith

length-pointer : (pointer : Pointer) → length ((pointer_item None).encode pointer) ≡ 9
unfolding pointer_item ranged u8_byte u32_le
length-pointer pointer = refl

length-place : (place : Place) → length ((place_item None).encode place) ≡ 5
unfolding place_item ranged u8_byte u32_le
length-place place = refl

length-digest : (digest : ℕ) → length ((digest_item None).encode digest) ≡ 8
unfolding u64_le
length-digest digest = refl

length-inode : (inode : AnInode) → length (inode_fields.encode inode) ≡ 13
unfolding inode_fields file_kind ranged u8_byte u32_le u64_le
length-inode inode = refl

length-names : (links : List Link) → length (names_fields.encode links) ≡ 1 + sum_by link_length links
unfolding names_fields counted items ranged u8_byte
length-names links = omega (arith, length-members (link_item None).encode link_length links length-link)

length-subs : (subs : List Sub) → length (subs_fields.encode subs) ≡ 1 + sum_by sub_length subs
unfolding subs_fields counted items ranged u8_byte
length-subs subs = omega (arith, length-members (sub_item None).encode sub_length subs length-sub)

length-extent : (extent : AnExtent) → length (extent_fields.encode extent) ≡ 2 + 9 * length extent.pointers + 8 * length extent.digests
unfolding extent_fields counted items ranged u8_byte
length-extent extent =
    let pointers = flat_map (pointer_item None).encode extent.pointers in
    let digests = flat_map (digest_item None).encode extent.digests in
    omega (arith, length-append pointers digests, length-alike (pointer_item None).encode 9 extent.pointers length-pointer, length-alike (digest_item None).encode 8 extent.digests length-digest)

pub length-node : (node : NodePtr) → length (node_fields.encode node) ≡ 10 + 5 * length node.places
unfolding node_fields counted items ranged u8_byte u64_le
length-node node = omega (arith, length-alike (place_item None).encode 5 node.places length-place)

length-fields : (value : Option Value) → 21 + length (fields_of value) ≡ key_length_of value
unfolding fields_of hole_fields snap_fields snap_state live_fields ranged u8_byte u32_le u64_le
length-fields None = refl
length-fields (Some (Inode inode)) = omega (arith, length-inode inode)
length-fields (Some (Names links)) = omega (arith, length-names links)
length-fields (Some (Extent extent)) = omega (arith, length-extent extent)
length-fields (Some (Hole blocks)) = refl
length-fields (Some White) = refl
length-fields (Some (Subs subs)) = omega (arith, length-subs subs)
length-fields (Some (Snap snap)) = refl
length-fields (Some (Live live)) = refl
length-fields (Some (Back extent)) = omega (arith, length-position extent)
length-fields (Some Gone) = refl
length-fields (Some (Counter next)) = refl
length-fields (Some (Node node)) = omega (arith, length-node node)

-- A key is as long as its value says.
pub length-encoding : (pos : Pos) (value : Option Value) → length (encoding pos value) ≡ key_length_of value
unfolding key_format u8_byte
length-encoding pos value = omega (arith, length-append (position.encode pos) (kind_number value ∷ fields_of value), length-position pos, length-fields value)
