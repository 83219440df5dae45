-- The fields of each kind of value are exact.
use Rattle.std.proofs.Common.{◌≡◌, ℕ, ◌^◌, ◌%◌, ◌<◌, ◌≤◌, Bool, true, List, length, All, Option, option_map, refl, sym, ap, subst, arith, lit<, eq-eqb}
use Rattle.std.specs.Prelude.{⊤}
use Rattle.std.specs.Int.{IsInRange}
use Rattle.std.specs.Ordering.{nat_cmp}
use Rattle.std.proofs.lemmas.Bool.{eqb-true}
use Rattle.vol_types.specs.declared.pointers.Place.{Place}
use Rattle.vol_types.specs.declared.pointers.Pointer.{Pointer}
use Rattle.vol_types.specs.declared.values.FileKind.{FileKind}
use Rattle.vol_types.specs.declared.values.FileKind.TheVariants.{File, Directory}
use Rattle.vol_types.specs.declared.values.Link.{Link}
use Rattle.vol_types.specs.declared.values.Live.{Live}
use Rattle.vol_types.specs.declared.values.SnapState.{SnapState}
use Rattle.vol_types.specs.declared.values.Sub.{Sub}
use Rattle.vol_types.specs.Ranges.{name_cmp, IsAbove, most_links, most_bytes, IsInode, IsName, AreLinks, AreSubs, IsDevice, IsExtent, IsBucket, IsNode}
use Rattle.vol_types.specs.Widths.{AreBytes, LinkFits, SubFits, PointerFits, ExtentFits, SnapFits, NodeFits}
use Rattle.key_codec.specs.declared.fault.KeyFault.TheVariants.{Range, Order}
use Rattle.key_codec.specs.Exact.{IsExact}
use Rattle.key_codec.specs.Formats.{u8_byte, u32_le, u64_le, checked, ranged, followed, both, items, counted, is_above}
use Rattle.key_codec.specs.Kinds.{file_kind, snap_state, flag, name, inode_fields, link_item, names_fields, pointer_item, digest_item, extent_fields, hole_fields, sub_item, subs_fields, snap_fields, live_fields, is_bucket_start, place_item, node_fields}
use Rattle.key_codec.specs.Combined.{refit, mapped-exact, checked-exact, followed-exact, both-exact, EncodesAlike}
use Rattle.key_codec.specs.FieldLaws.{u32_le-exact, u64_le-exact, ranged-exact, byte_within-exact, file_kind-exact, snap_state-exact, flag-exact, name-exact}
use Rattle.key_codec.specs.ListLaws.{above_from_test, test_from_above, RisesBy, AreRising, rising-exact, each-exact, counted-exact, both_of_each}

abbrev IsU32 : ℕ → Type 0
IsU32 n = n < 2 ^ 32

abbrev IsU64 : ℕ → Type 0
IsU64 n = n < 2 ^ 64

-- ---- inodes, holes, snapshot ids and buckets

links_small : (kind : FileKind) (links : ℕ) → links ≤ most_links kind → links < 2 ^ 32
links_small File links le = omega arith
links_small Directory links le = omega arith

bytes_small : (kind : FileKind) (size : ℕ) → size ≤ most_bytes kind → size < 2 ^ 64
bytes_small File size le = omega arith
bytes_small Directory size le = omega arith

abbrev InodeParts : FileKind → ℕ × ℕ → Type 0
InodeParts kind p = (IsU32 p.0 × IsInRange 1 (most_links kind) p.0) × (IsU64 p.1 × IsInRange 0 (most_bytes kind) p.1)

pub inode-exact : IsExact IsInode inode_fields
unfolding inode_fields
inode-exact = mapped-exact (λ (p : FileKind × (ℕ × ℕ)). ⊤ × InodeParts p.0 p.1) IsInode
    (followed (file_kind 1) (λ kind. both (ranged 2 u32_le 1 (most_links kind)) (ranged 3 u64_le 0 (most_bytes kind))))
    (λ p. record { kind = p.0; links = p.1.0; size = p.1.1 }) (λ i. (i.kind, (i.links, i.size)))
    (λ p fits. (record { links = fits.1.0.1; size = fits.1.1.1.1 }, refl))
    (λ i fits. ((tt, ((links_small i.kind i.links fits.links.1, fits.links), (bytes_small i.kind i.size fits.size, (omega arith, fits.size)))), refl))
    (followed-exact (λ kind. ⊤) InodeParts (file_kind 1) (λ kind. both (ranged 2 u32_le 1 (most_links kind)) (ranged 3 u64_le 0 (most_bytes kind))) (file_kind-exact 1)
    (λ kind. both-exact (λ n. IsU32 n × IsInRange 1 (most_links kind) n) (λ n. IsU64 n × IsInRange 0 (most_bytes kind) n) (ranged 2 u32_le 1 (most_links kind)) (ranged 3 u64_le 0 (most_bytes kind))
    (ranged-exact IsU32 2 u32_le 1 (most_links kind) u32_le-exact) (ranged-exact IsU64 3 u64_le 0 (most_bytes kind) u64_le-exact)))

pub hole-exact : IsExact (IsInRange 1 4096) hole_fields
unfolding hole_fields
hole-exact = refit (λ n. IsU32 n × IsInRange 1 4096 n) (IsInRange 1 4096) (ranged 1 u32_le 1 4096) (λ n fits. fits.1) (λ n fits. (omega (arith, fits.1), fits)) (ranged-exact IsU32 1 u32_le 1 4096 u32_le-exact)

pub snap-exact : IsExact SnapFits snap_fields
unfolding snap_fields
snap-exact = mapped-exact (λ (p : ℕ × (ℕ × (ℕ × SnapState))). IsU32 p.0 × (IsU32 p.1.0 × (IsU32 p.1.1.0 × ⊤))) SnapFits
    (both u32_le (both u32_le (both u32_le (snap_state 4))))
    (λ p. record { parent = p.0; first_child = p.1.0; second_child = p.1.1.0; state = p.1.1.1 }) (λ s. (s.parent, (s.first_child, (s.second_child, s.state))))
    (λ p fits. (record { parent = fits.0; first_child = fits.1.0; second_child = fits.1.1.0 }, refl))
    (λ s fits. ((fits.parent, (fits.first_child, (fits.second_child, tt))), refl))
    (both-exact IsU32 (λ (p : ℕ × (ℕ × SnapState)). IsU32 p.0 × (IsU32 p.1.0 × ⊤)) u32_le (both u32_le (both u32_le (snap_state 4))) u32_le-exact
    (both-exact IsU32 (λ (p : ℕ × SnapState). IsU32 p.0 × ⊤) u32_le (both u32_le (snap_state 4)) u32_le-exact
    (both-exact IsU32 (λ (state : SnapState). ⊤) u32_le (snap_state 4) u32_le-exact (snap_state-exact 4))))

-- A bucket's generation has its width, and it has no more blocks than 16.
abbrev pub IsLive : Live → Type 0
IsLive live = IsU32 live.generation × (live.blocks ≤ 16)

pub live-exact : IsExact IsLive live_fields
unfolding live_fields
live-exact = mapped-exact (λ (p : ℕ × ℕ). IsU32 p.0 × IsInRange 0 16 p.1) IsLive (both u32_le (ranged 2 u8_byte 0 16)) (λ p. record { generation = p.0; blocks = p.1 }) (λ l. (l.generation, l.blocks))
    (λ p fits. ((fits.0, fits.1.1), refl))
    (λ l fits. ((fits.0, (omega arith, fits.1)), refl))
    (both-exact IsU32 (IsInRange 0 16) u32_le (ranged 2 u8_byte 0 16) u32_le-exact (byte_within-exact 2 0 16 (lit< tt)))

-- ---- names

-- A name after another is exact.
name_after-exact : (k : ℕ) (before : Option (List ℕ)) → IsExact (λ bytes. (AreBytes bytes × IsName bytes) × IsAbove name_cmp before bytes) (checked (name k) (is_above name_cmp before) Order)
name_after-exact k before = refit (λ bytes. (AreBytes bytes × IsName bytes) × (is_above name_cmp before bytes ≡ true)) (λ bytes. (AreBytes bytes × IsName bytes) × IsAbove name_cmp before bytes) (checked (name k) (is_above name_cmp before) Order)
    (λ bytes fits. (fits.0, above_from_test name_cmp before bytes fits.1)) (λ bytes fits. (fits.0, test_from_above name_cmp before bytes fits.1))
    (checked-exact (λ bytes. AreBytes bytes × IsName bytes) (name k) (is_above name_cmp before) Order (name-exact k))

-- The link has its widths and a name.
abbrev IsLink : Link → Type 0
IsLink link = LinkFits link × IsName link.name

link-exact : (before : Option Link) → IsExact (RisesBy IsLink name_cmp (λ l. l.name) before) (link_item before)
unfolding link_item
link-exact before =
    let old : Option (List ℕ) = option_map (λ l. l.name) before in
    let last = checked (name 4) (is_above name_cmp old) Order in
    mapped-exact (λ (p : ℕ × (FileKind × List ℕ)). IsU64 p.0 × (⊤ × ((AreBytes p.1.1 × IsName p.1.1) × IsAbove name_cmp old p.1.1))) (RisesBy IsLink name_cmp (λ l. l.name) before)
    (both u64_le (both (file_kind 3) last)) (λ p. record { number = p.0; kind = p.1.0; name = p.1.1 }) (λ l. (l.number, (l.kind, l.name)))
    (λ p fits. (((record { number = fits.0; name = fits.1.1.0.0 }, fits.1.1.0.1), fits.1.1.1), refl))
    (λ l fits. ((fits.0.0.number, (tt, ((fits.0.0.name, fits.0.1), fits.1))), refl))
    (both-exact IsU64 (λ (p : FileKind × List ℕ). ⊤ × ((AreBytes p.1 × IsName p.1) × IsAbove name_cmp old p.1)) u64_le (both (file_kind 3) last) u64_le-exact
    (both-exact (λ (kind : FileKind). ⊤) (λ bytes. (AreBytes bytes × IsName bytes) × IsAbove name_cmp old bytes) (file_kind 3) last (file_kind-exact 3) (name_after-exact 4 old)))

link_alike : EncodesAlike link_item
unfolding link_item
link_alike before link = refl

pub names-exact : IsExact (λ links. All LinkFits links × AreLinks links) names_fields
unfolding names_fields
names-exact = refit (λ links. AreRising IsLink name_cmp (λ l. l.name) links × IsInRange 1 8 (length links)) (λ links. All LinkFits links × AreLinks links) (counted 1 8 link_item)
    (λ links fits. (λ k d lt. (fits.0.0 k d lt).0, record { count = fits.1; each = λ k d lt. (fits.0.0 k d lt).1; rise = fits.0.1 }))
    (λ links fits. ((both_of_each LinkFits (λ link. IsName link.name) links fits.0 fits.1.each, fits.1.rise), fits.1.count))
    (counted-exact (AreRising IsLink name_cmp (λ l. l.name)) 1 8 link_item (lit< tt) (rising-exact IsLink name_cmp (λ l. l.name) link_item link_alike link-exact))

-- The subvolume has its widths and a name.
abbrev IsSub : Sub → Type 0
IsSub sub = SubFits sub × IsName sub.name

sub-exact : (before : Option Sub) → IsExact (RisesBy IsSub name_cmp (λ s. s.name) before) (sub_item before)
unfolding sub_item
sub-exact before =
    let old : Option (List ℕ) = option_map (λ s. s.name) before in
    let last = checked (name 5) (is_above name_cmp old) Order in
    mapped-exact (λ (p : ℕ × (ℕ × (Bool × List ℕ))). IsU32 p.0 × (IsU64 p.1.0 × (⊤ × ((AreBytes p.1.1.1 × IsName p.1.1.1) × IsAbove name_cmp old p.1.1.1)))) (RisesBy IsSub name_cmp (λ s. s.name) before)
    (both u32_le (both u64_le (both (flag 4) last))) (λ p. record { id = p.0; root = p.1.0; read_only = p.1.1.0; name = p.1.1.1 }) (λ s. (s.id, (s.root, (s.read_only, s.name))))
    (λ p fits. (((record { id = fits.0; root = fits.1.0; name = fits.1.1.1.0.0 }, fits.1.1.1.0.1), fits.1.1.1.1), refl))
    (λ s fits. ((fits.0.0.id, (fits.0.0.root, (tt, ((fits.0.0.name, fits.0.1), fits.1)))), refl))
    (both-exact IsU32 (λ (p : ℕ × (Bool × List ℕ)). IsU64 p.0 × (⊤ × ((AreBytes p.1.1 × IsName p.1.1) × IsAbove name_cmp old p.1.1))) u32_le (both u64_le (both (flag 4) last)) u32_le-exact
    (both-exact IsU64 (λ (p : Bool × List ℕ). ⊤ × ((AreBytes p.1 × IsName p.1) × IsAbove name_cmp old p.1)) u64_le (both (flag 4) last) u64_le-exact
    (both-exact (λ (yes : Bool). ⊤) (λ bytes. (AreBytes bytes × IsName bytes) × IsAbove name_cmp old bytes) (flag 4) last (flag-exact 4) (name_after-exact 5 old))))

sub_alike : EncodesAlike sub_item
unfolding sub_item
sub_alike before sub = refl

pub subs-exact : IsExact (λ subs. All SubFits subs × AreSubs subs) subs_fields
unfolding subs_fields
subs-exact = refit (λ subs. AreRising IsSub name_cmp (λ s. s.name) subs × IsInRange 1 8 (length subs)) (λ subs. All SubFits subs × AreSubs subs) (counted 1 8 sub_item)
    (λ subs fits. (λ k d lt. (fits.0.0 k d lt).0, record { count = fits.1; each = λ k d lt. (fits.0.0 k d lt).1; rise = fits.0.1 }))
    (λ subs fits. ((both_of_each SubFits (λ sub. IsName sub.name) subs fits.0 fits.1.each, fits.1.rise), fits.1.count))
    (counted-exact (AreRising IsSub name_cmp (λ s. s.name)) 1 8 sub_item (lit< tt) (rising-exact IsSub name_cmp (λ s. s.name) sub_item sub_alike sub-exact))

-- ---- extents

abbrev IsPointer : Pointer → Type 0
IsPointer pointer = PointerFits pointer × IsDevice pointer.place.dev

-- A device after another is exact.
device_after-exact : (before : Option ℕ) → IsExact (λ dev. IsDevice dev × IsAbove nat_cmp before dev) (checked (ranged 3 u8_byte 0 7) (is_above nat_cmp before) Order)
device_after-exact before = refit (λ dev. IsInRange 0 7 dev × (is_above nat_cmp before dev ≡ true)) (λ dev. IsDevice dev × IsAbove nat_cmp before dev) (checked (ranged 3 u8_byte 0 7) (is_above nat_cmp before) Order)
    (λ dev fits. (omega (arith, fits.0.1), above_from_test nat_cmp before dev fits.1)) (λ dev fits. ((omega arith, omega (arith, fits.0)), test_from_above nat_cmp before dev fits.1))
    (checked-exact (IsInRange 0 7) (ranged 3 u8_byte 0 7) (is_above nat_cmp before) Order (byte_within-exact 3 0 7 (lit< tt)))

pointer-exact : (before : Option Pointer) → IsExact (RisesBy IsPointer nat_cmp (λ p. p.place.dev) before) (pointer_item before)
unfolding pointer_item
pointer-exact before =
    let old : Option ℕ = option_map (λ p. p.place.dev) before in
    let first = checked (ranged 3 u8_byte 0 7) (is_above nat_cmp old) Order in
    mapped-exact (λ (p : ℕ × (ℕ × ℕ)). (IsDevice p.0 × IsAbove nat_cmp old p.0) × (IsU32 p.1.0 × IsU32 p.1.1)) (RisesBy IsPointer nat_cmp (λ p. p.place.dev) before)
    (both first (both u32_le u32_le)) (λ p. record { place = record { dev = p.0; block = p.1.0 }; generation = p.1.1 }) (λ p. (p.place.dev, (p.place.block, p.generation)))
    (λ p fits. (((record { block = fits.1.0; generation = fits.1.1 }, fits.0.0), fits.0.1), refl))
    (λ p fits. (((fits.0.1, fits.1), (fits.0.0.block, fits.0.0.generation)), refl))
    (both-exact (λ dev. IsDevice dev × IsAbove nat_cmp old dev) (λ (p : ℕ × ℕ). IsU32 p.0 × IsU32 p.1) first (both u32_le u32_le) (device_after-exact old) (both-exact IsU32 IsU32 u32_le u32_le u32_le-exact u32_le-exact))

pointer_alike : EncodesAlike pointer_item
unfolding pointer_item
pointer_alike before pointer = refl

abbrev ArePointers : List Pointer → Type 0
ArePointers pointers = AreRising IsPointer nat_cmp (λ p. p.place.dev) pointers × IsInRange 1 3 (length pointers)

pointers-exact : IsExact ArePointers (counted 2 3 pointer_item)
pointers-exact = counted-exact (AreRising IsPointer nat_cmp (λ p. p.place.dev)) 2 3 pointer_item (lit< tt) (rising-exact IsPointer nat_cmp (λ p. p.place.dev) pointer_item pointer_alike pointer-exact)

digests-exact : (n : ℕ) → IsExact (λ digests. All IsU64 digests × (length digests ≡ n)) (items digest_item n)
digests-exact n = each-exact IsU64 digest_item (λ before digest. refl) (λ before. u64_le-exact) n

pub extent-exact : IsExact (λ extent. ExtentFits extent × IsExtent extent) extent_fields
unfolding extent_fields
extent-exact = mapped-exact (λ (p : ℕ × (List Pointer × List ℕ)). IsInRange 1 16 p.0 × (ArePointers p.1.0 × (All IsU64 p.1.1 × (length p.1.1 ≡ p.0)))) (λ extent. ExtentFits extent × IsExtent extent)
    (followed (ranged 1 u8_byte 1 16) (λ blocks. both (counted 2 3 pointer_item) (items digest_item blocks))) (λ p. record { pointers = p.1.0; digests = p.1.1 }) (λ e. (length e.digests, (e.pointers, e.digests)))
    (λ p fits.
    let each = fits.1.0.0.0 in (
      (
        record { pointers = λ k d lt. (each k d lt).0; digests = fits.1.1.0 },
        record { blocks = subst (λ n. IsInRange 1 16 n) (sym fits.1.1.1) fits.0; copies = fits.1.0.1; each = λ k d lt. (each k d lt).1; rise = fits.1.0.0.1 },
      ),
      ap (λ n. (n, (p.1.0, p.1.1))) fits.1.1.1,
    ))
    (λ e fits. ((fits.1.blocks, (((both_of_each PointerFits (λ p. IsDevice p.place.dev) e.pointers fits.0.pointers fits.1.each, fits.1.rise), fits.1.copies), (fits.0.digests, refl))), refl))
    (followed-exact (IsInRange 1 16) (λ blocks (p : List Pointer × List ℕ). ArePointers p.0 × (All IsU64 p.1 × (length p.1 ≡ blocks))) (ranged 1 u8_byte 1 16) (λ blocks. both (counted 2 3 pointer_item) (items digest_item blocks)) (byte_within-exact 1 1 16 (lit< tt))
    (λ blocks. both-exact ArePointers (λ digests. All IsU64 digests × (length digests ≡ blocks)) (counted 2 3 pointer_item) (items digest_item blocks) pointers-exact (digests-exact blocks)))

-- ---- nodes

abbrev IsPlace : Place → Type 0
IsPlace place = IsU32 place.block × IsBucket place

place-exact : (before : Option Place) → IsExact IsPlace (place_item before)
unfolding place_item
place-exact before = mapped-exact (λ (p : ℕ × ℕ). IsInRange 0 7 p.0 × (IsU32 p.1 × (is_bucket_start p.1 ≡ true))) IsPlace (both (ranged 4 u8_byte 0 7) (checked u32_le is_bucket_start (Range 5))) (λ p. record { dev = p.0; block = p.1 }) (λ p. (p.dev, p.block))
    (λ p fits. ((fits.1.0, record { device = omega (arith, fits.0.1); first = eqb-true (p.1 % 16) 0 fits.1.1 }), refl))
    (λ p fits. (((omega arith, omega (arith, fits.1.device)), (fits.0, eq-eqb (p.block % 16) 0 fits.1.first)), refl))
    (both-exact (IsInRange 0 7) (λ n. IsU32 n × (is_bucket_start n ≡ true)) (ranged 4 u8_byte 0 7) (checked u32_le is_bucket_start (Range 5)) (byte_within-exact 4 0 7 (lit< tt)) (checked-exact IsU32 u32_le is_bucket_start (Range 5) u32_le-exact))

place_alike : EncodesAlike place_item
unfolding place_item
place_alike before place = refl

pub node-exact : IsExact (λ node. NodeFits node × IsNode node) node_fields
unfolding node_fields
node-exact = mapped-exact (λ (p : ℕ × (ℕ × List Place)). IsU64 p.0 × (IsInRange 0 7 p.1.0 × (All IsPlace p.1.1 × IsInRange 1 3 (length p.1.1)))) (λ node. NodeFits node × IsNode node)
    (both u64_le (both (ranged 2 u8_byte 0 7) (counted 3 3 place_item))) (λ p. record { birth = p.0; level = p.1.0; places = p.1.1 }) (λ n. (n.birth, (n.level, n.places)))
    (λ p fits. ((record { birth = fits.0; places = λ k d lt. (fits.1.1.0 k d lt).0 }, record { level = fits.1.0.1; copies = fits.1.1.1; each = λ k d lt. (fits.1.1.0 k d lt).1 }), refl))
    (λ n fits. ((fits.0.birth, ((omega arith, fits.1.level), (both_of_each (λ place. IsU32 place.block) IsBucket n.places fits.0.places fits.1.each, fits.1.copies))), refl))
    (both-exact IsU64 (λ (p : ℕ × List Place). IsInRange 0 7 p.0 × (All IsPlace p.1 × IsInRange 1 3 (length p.1))) u64_le (both (ranged 2 u8_byte 0 7) (counted 3 3 place_item)) u64_le-exact
    (both-exact (IsInRange 0 7) (λ places. All IsPlace places × IsInRange 1 3 (length places)) (ranged 2 u8_byte 0 7) (counted 3 3 place_item) (byte_within-exact 2 0 7 (lit< tt))
    (counted-exact (All IsPlace) 3 3 place_item (lit< tt) (each-exact IsPlace place_item place_alike place-exact))))
