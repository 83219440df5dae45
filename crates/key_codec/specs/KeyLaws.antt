-- The fields of every kind of key are exact, and so are keys.
use Rattle.std.proofs.Common.{◌≡◌, ℕ, zero, suc, ◌+◌, ◌-◌, ◌^◌, ◌≤◌, ◌<◌, List, [], ◌++◌, length, take, All, Option, None, Some, Result, Ok, Err, refl, sym, ap, subst, ◌∙◌, length-append, arith, inl, inr}
use Rattle.std.proofs.lemmas.List.{take_at}
use Rattle.vol_types.specs.declared.keys.Key.{Key}
use Rattle.vol_types.specs.declared.positions.Pos.{Pos}
use Rattle.vol_types.specs.declared.values.Value.{Value}
use Rattle.vol_types.specs.declared.values.Value.TheVariants.{Inode, Names, Extent, Hole, White, Subs, Snap, Live, Back, Gone, Counter, Node}
use Rattle.std.specs.Int.{IsInRange}
use Rattle.vol_types.specs.Ranges.{IsKeyValue, IsInode, AreLinks, IsExtent, AreSubs, IsNode}
use Rattle.vol_types.specs.Lengths.{key_length_of}
use Rattle.vol_types.specs.Widths.{PosFits, LinkFits, ExtentFits, SubFits, SnapFits, NodeFits, KeyValueFits, AreBytes}
use Rattle.key_codec.specs.declared.fault.KeyFault.{KeyFault}
use Rattle.key_codec.specs.declared.fault.KeyFault.TheVariants.{Kind}
use Rattle.key_codec.specs.declared.reading.KeyRead.{KeyRead}
use Rattle.key_codec.specs.Exact.{IsExact}
use Rattle.key_codec.specs.Formats.{Format, ◌>>=◌, u8_byte, u64_le, followed, both}
use Rattle.key_codec.specs.Keys.{kind_number, fields_of, IsKey, FieldsReader, with_fields, without_fields, read_fields, fields, key_format, encoding, key_in}
use Rattle.key_codec.specs.Kinds as kinds
use Rattle.key_codec.specs.Combined.{bind_ok, bind_err, done, ok_is, ok_no_err, u8_byte-exact, mapped-exact, followed-exact, encodings_meet}
use Rattle.key_codec.specs.FieldLaws.{u64_le-exact, position-exact}
use Rattle.key_codec.specs.LengthLaws.{length-encoding}
use Rattle.key_codec.specs.KindLaws.{inode-exact, names-exact, extent-exact, hole-exact, subs-exact, snap-exact, IsLive, live-exact, node-exact}

-- The fields of the key's value have their widths and are in range.
abbrev pub IsFields : Option Value → Type 0
IsFields value = KeyValueFits value × IsKeyValue value

-- The fields are those of a key of this kind.
abbrev pub IsOfKind : ℕ → Option Value → Type 0
IsOfKind kind value = IsFields value × (kind_number value ≡ kind)

-- the fields of a kind, by how they are read
abbrev read_as : FieldsReader → Format (Option Value)
read_as reader = record { encode = fields_of; read = reader }

-- Each value of the kind is made of fields that fit.
abbrev IsMadeBy : {A : Type 0} → ℕ → (A → Type 0) → (A → Value) → Type 0
IsMadeBy {A} kind F make = (value : Option Value) → IsOfKind kind value → (x : A) × F x × (value ≡ Some (make x))

with-exact : {A : Type 0} (kind : ℕ) (F : A → Type 0) (format : Format A) (make : A → Value) → IsExact F format → ((x : A) → F x → IsOfKind kind (Some (make x))) → ((x : A) → fields_of (Some (make x)) ≡ format.encode x) → IsMadeBy kind F make → IsExact (IsOfKind kind) (read_as (with_fields format make))
with-exact {A} kind F format make exact fits encoded made =
    let next : A × List ℕ → Result (Option Value × List ℕ) KeyFault = λ x. Ok (Some (make x.0), x.1) in
    record {
      found = λ bytes value rest are e.
          let b = bind_ok (format.read bytes) next (value, rest) e in
          let f = exact.found bytes b.0.0 b.0.1 are b.1 in
          subst (λ (p : Option Value × List ℕ). IsOfKind kind p.0 × (bytes ≡ fields_of p.0 ++ p.1)) (ok_is (Some (make b.0.0), b.0.1) (value, rest) b.2) (fits b.0.0 f.0, f.1 ∙ ap (λ s. s ++ b.0.1) (sym (encoded b.0.0)));
      only = λ value rest is.
          let m = made value is in
          ap (λ s. format.read (s ++ rest) >>= next) (ap fields_of m.2 ∙ encoded m.0) ∙ ap (λ r. r >>= next) (exact.only m.0 rest m.1) ∙ ap (λ v. Ok (v, rest)) (sym m.2);
      cut = λ value prefix rest is e some.
          let m = made value is in
          ap (λ r. r >>= next) (exact.cut m.0 prefix rest m.1 (sym (ap fields_of m.2 ∙ encoded m.0) ∙ e) some);
      settled = λ bytes more fault are other e.
          elim (bind_err (format.read bytes) next fault e) [
            | inl p ↦ ap (λ r. r >>= next) (exact.settled bytes more fault are other p)
            | inr w ↦ absurd (ok_no_err (Some (make w.0.0), w.0.1) fault w.2)
          ];
    }

no_more : (prefix rest : List ℕ) → [] ≡ prefix ++ rest → 0 < length rest → ⊥
no_more prefix rest e some = omega (arith, ap length e, length-append prefix rest)

without-exact : (kind : ℕ) (value : Option Value) → IsOfKind kind value → fields_of value ≡ [] → ((other : Option Value) → IsOfKind kind other → other ≡ value) → IsExact (IsOfKind kind) (read_as (without_fields value))
without-exact kind value is empty sole = record {
  found = λ bytes other rest are e. subst (λ (p : Option Value × List ℕ). IsOfKind kind p.0 × (bytes ≡ fields_of p.0 ++ p.1)) (ok_is (value, bytes) (other, rest) e) (is, ap (λ s. s ++ bytes) (sym empty));
  only = λ other rest is_other. ap (λ b. done (value, b)) (ap (λ s. s ++ rest) (ap fields_of (sole other is_other) ∙ empty)) ∙ ap (λ v. Ok (v, rest)) (sym (sole other is_other));
  cut = λ other prefix rest is_other e some. absurd (no_more prefix rest (sym (ap fields_of (sole other is_other) ∙ empty) ∙ e) some);
  settled = λ bytes more fault are other e. absurd (ok_no_err (value, bytes) fault e);
}

-- ---- what the values of each kind are made of

made_inode : IsMadeBy 1 IsInode Inode
made_inode (Some (Inode inode)) is = (inode, is.0.1, refl)
made_inode value is = absurd (omega (arith, is.1))

made_names : IsMadeBy 2 (λ links. All LinkFits links × AreLinks links) Names
made_names (Some (Names links)) is = (links, is.0, refl)
made_names value is = absurd (omega (arith, is.1))

made_extent : IsMadeBy 3 (λ extent. ExtentFits extent × IsExtent extent) Extent
made_extent (Some (Extent extent)) is = (extent, is.0, refl)
made_extent value is = absurd (omega (arith, is.1))

made_hole : IsMadeBy 4 (IsInRange 1 4096) Hole
made_hole (Some (Hole blocks)) is = (blocks, is.0.1, refl)
made_hole value is = absurd (omega (arith, is.1))

made_subs : IsMadeBy 6 (λ subs. All SubFits subs × AreSubs subs) Subs
made_subs (Some (Subs subs)) is = (subs, is.0, refl)
made_subs value is = absurd (omega (arith, is.1))

made_snap : IsMadeBy 7 SnapFits Snap
made_snap (Some (Snap snap)) is = (snap, is.0.0, refl)
made_snap value is = absurd (omega (arith, is.1))

made_live : IsMadeBy 8 IsLive Live
made_live (Some (Live live)) is = (live, is.0, refl)
made_live value is = absurd (omega (arith, is.1))

made_back : IsMadeBy 9 PosFits Back
made_back (Some (Back extent)) is = (extent, is.0.0, refl)
made_back value is = absurd (omega (arith, is.1))

made_counter : IsMadeBy 11 (λ n. n < 2 ^ 64) Counter
made_counter (Some (Counter next)) is = (next, is.0.0, refl)
made_counter value is = absurd (omega (arith, is.1))

made_node : IsMadeBy 12 (λ node. NodeFits node × IsNode node) Node
made_node (Some (Node node)) is = (node, is.0, refl)
made_node value is = absurd (omega (arith, is.1))

sole_removed : (value : Option Value) → IsOfKind 0 value → value ≡ None
sole_removed None is = refl
sole_removed (Some (Inode inode)) is = absurd (omega (arith, is.1))
sole_removed (Some value) is = absurd (omega (arith, is.1))

sole_white : (value : Option Value) → IsOfKind 5 value → value ≡ Some White
sole_white (Some White) is = refl
sole_white value is = absurd (omega (arith, is.1))

sole_gone : (value : Option Value) → IsOfKind 10 value → value ≡ Some Gone
sole_gone (Some Gone) is = refl
sole_gone value is = absurd (omega (arith, is.1))

-- There is no kind above 12.
pub kinds_known : (value : Option Value) → kind_number value ≤ 12
kinds_known None = omega arith
kinds_known (Some (Inode inode)) = omega arith
kinds_known (Some value) = omega arith

-- ---- keys

unknown-exact : (kind : ℕ) → 13 ≤ kind → IsExact (IsOfKind kind) (read_as (λ bytes. Err (Kind kind)))
unknown-exact kind far = record {
  found = λ bytes value rest are e. absurd (ok_no_err (value, rest) (Kind kind) (sym e));
  only = λ value rest is. absurd (omega (arith, kinds_known value, is.1));
  cut = λ value prefix rest is e some. absurd (omega (arith, kinds_known value, is.1));
  settled = λ bytes more fault are other e. e;
}

pub fields-exact : (kind : ℕ) → IsExact (IsOfKind kind) (fields kind)
unfolding read_fields fields_of
fields-exact zero = without-exact 0 None ((tt, tt), refl) refl sole_removed
fields-exact (suc zero) = with-exact 1 IsInode kinds.inode_fields Inode inode-exact (λ x fits. ((tt, fits), refl)) (λ x. refl) made_inode
fields-exact (suc (suc zero)) = with-exact 2 (λ links. All LinkFits links × AreLinks links) kinds.names_fields Names names-exact (λ x fits. (fits, refl)) (λ x. refl) made_names
fields-exact (suc (suc (suc zero))) = with-exact 3 (λ extent. ExtentFits extent × IsExtent extent) kinds.extent_fields Extent extent-exact (λ x fits. (fits, refl)) (λ x. refl) made_extent
fields-exact (suc (suc (suc (suc zero)))) = with-exact 4 (IsInRange 1 4096) kinds.hole_fields Hole hole-exact (λ x fits. ((tt, fits), refl)) (λ x. refl) made_hole
fields-exact (suc (suc (suc (suc (suc zero))))) = without-exact 5 (Some White) ((tt, tt), refl) refl sole_white
fields-exact (suc (suc (suc (suc (suc (suc zero)))))) = with-exact 6 (λ subs. All SubFits subs × AreSubs subs) kinds.subs_fields Subs subs-exact (λ x fits. (fits, refl)) (λ x. refl) made_subs
fields-exact (suc (suc (suc (suc (suc (suc (suc zero))))))) = with-exact 7 SnapFits kinds.snap_fields Snap snap-exact (λ x fits. ((fits, tt), refl)) (λ x. refl) made_snap
fields-exact (suc (suc (suc (suc (suc (suc (suc (suc zero)))))))) = with-exact 8 IsLive kinds.live_fields Live live-exact (λ x fits. (fits, refl)) (λ x. refl) made_live
fields-exact (suc (suc (suc (suc (suc (suc (suc (suc (suc zero))))))))) = with-exact 9 PosFits kinds.position Back position-exact (λ x fits. ((fits, tt), refl)) (λ x. refl) made_back
fields-exact (suc (suc (suc (suc (suc (suc (suc (suc (suc (suc zero)))))))))) = without-exact 10 (Some Gone) ((tt, tt), refl) refl sole_gone
fields-exact (suc (suc (suc (suc (suc (suc (suc (suc (suc (suc (suc zero))))))))))) = with-exact 11 (λ n. n < 2 ^ 64) u64_le Counter u64_le-exact (λ x fits. ((fits, tt), refl)) (λ x. refl) made_counter
fields-exact (suc (suc (suc (suc (suc (suc (suc (suc (suc (suc (suc (suc zero)))))))))))) = with-exact 12 (λ node. NodeFits node × IsNode node) kinds.node_fields Node node-exact (λ x fits. (fits, refl)) (λ x. refl) made_node
fields-exact (suc (suc (suc (suc (suc (suc (suc (suc (suc (suc (suc (suc (suc kind))))))))))))) = unknown-exact (suc (suc (suc (suc (suc (suc (suc (suc (suc (suc (suc (suc (suc kind))))))))))))) (omega arith)

-- Keys are exact.
pub key-exact : IsExact (λ key. IsKey key.pos key.value) key_format
unfolding key_format
key-exact = mapped-exact (λ (p : Pos × (ℕ × Option Value)). PosFits p.0 × ((p.1.0 < 256) × IsOfKind p.1.0 p.1.1)) (λ key. IsKey key.pos key.value) (both kinds.position (followed u8_byte fields))
    (λ x. record { pos = x.0; value = x.1.1 }) (λ key. (key.pos, (kind_number key.value, key.value)))
    (λ p fits. (record { pos_fits = fits.0; value_fits = fits.1.1.0.0; in_range = fits.1.1.0.1 }, ap (λ n. (p.0, (n, p.1.1))) fits.1.1.1))
    (λ key is. ((is.pos_fits, (omega (arith, kinds_known key.value), ((is.value_fits, is.in_range), refl))), refl))
    (followed-exact PosFits (λ _ (q : ℕ × Option Value). (q.0 < 256) × IsOfKind q.0 q.1) kinds.position (λ _. followed u8_byte fields) position-exact (λ _. followed-exact (λ n. n < 256) IsOfKind u8_byte fields u8_byte-exact fields-exact))

-- Two encodings at the start of the same bytes are one.
pub keys_meet : (pos other_pos : Pos) (value other_value : Option Value) (rest other_rest : List ℕ) → IsKey pos value → IsKey other_pos other_value → encoding pos value ++ rest ≡ encoding other_pos other_value ++ other_rest → (pos ≡ other_pos) × (value ≡ other_value) × (rest ≡ other_rest)
keys_meet pos other_pos value other_value rest other_rest is other_is e =
    let key : Key = record { pos = pos; value = value } in
    let other : Key = record { pos = other_pos; value = other_value } in
    let one = encodings_meet (λ x. IsKey x.pos x.value) key_format key-exact key other rest other_rest is other_is e in
    (ap (λ (x : Key). x.pos) one.0, ap (λ (x : Key). x.value) one.0, one.1)

abbrev read_of : List ℕ → Key × List ℕ → Result KeyRead KeyFault
read_of bytes x = Ok (record { pos = x.0.pos; value = x.0.value; used = length bytes - length x.1 })

-- ---- keys at the start of bytes

-- What is read off the start is a key, and the bytes that it uses are its encoding.
pub key_found : (bytes : List ℕ) (read : KeyRead) → AreBytes bytes → key_in bytes ≡ Ok read → IsKey read.pos read.value × (read.used ≤ length bytes) × (take read.used bytes ≡ encoding read.pos read.value)
unfolding key_in
key_found bytes read are e =
    let b = bind_ok (key_format.read bytes) (read_of bytes) read e in
    let f = key-exact.found bytes b.0.0 b.0.1 are b.1 in
    let size : length bytes ≡ length (key_format.encode b.0.0) + length b.0.1 = ap length f.1 ∙ length-append (key_format.encode b.0.0) b.0.1 in
    let prefix : take (length bytes - length b.0.1) bytes ≡ key_format.encode b.0.0 = ap (take (length bytes - length b.0.1)) f.1 ∙ take_at (key_format.encode b.0.0) b.0.1 (length bytes - length b.0.1) (omega (arith, size)) in
    let made : KeyRead = record { pos = b.0.0.pos; value = b.0.0.value; used = length bytes - length b.0.1 } in
    subst (λ (r : KeyRead). IsKey r.pos r.value × (r.used ≤ length bytes) × (take r.used bytes ≡ encoding r.pos r.value)) (ok_is made read b.2) (f.0, omega arith, prefix)

-- The bytes after a key are no more than all.
pub rest_is_shorter : (bytes : List ℕ) (key : Key) (rest : List ℕ) → AreBytes bytes → key_format.read bytes ≡ Ok (key, rest) → length rest ≤ length bytes
rest_is_shorter bytes key rest are e =
    let f = key-exact.found bytes key rest are e in
    omega (arith, ap length f.1, length-append (key_format.encode key) rest)

-- A encoded key is read again, whatever follows it.
pub key_again : (pos : Pos) (value : Option Value) (rest : List ℕ) → IsKey pos value → key_in (encoding pos value ++ rest) ≡ Ok (record { pos = pos; value = value; used = key_length_of value })
unfolding key_in
key_again pos value rest is =
    let bytes = encoding pos value ++ rest in
    let key : Key = record { pos = pos; value = value } in
    let used : length bytes - length rest ≡ key_length_of value = omega (arith, length-append (encoding pos value) rest, length-encoding pos value) in
    ap (λ r. r >>= read_of bytes) (key-exact.only key rest is) ∙ ap (λ n. Ok (record { pos = pos; value = value; used = n })) used
