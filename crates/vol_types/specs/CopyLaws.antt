-- Maps and sets that are made again from their keys, the least key first.
use Rattle.std.proofs.Common.{◌≡◌, List, [], ◌∷◌, ◌++◌, refl, sym, ap, subst, append_assoc, ◌∙◌}
use Rattle.std.specs.List.{AllByRecursion}
use Rattle.std.specs.List.Sorted.{IsStrictlySortedBy}
use Rattle.std.specs.Cmp.{IsTotalOrder}
use Rattle.std.specs.Map.{keys_of}
use Rattle.std.specs.BTreeMap.{insert_entry}
use Rattle.std.specs.BTreeSet.{insert_key}
use Rattle.std.specs.Ordering.{match_ordering, ordering_reverse}
use Rattle.std.specs.declared.cmp.Ordering.{Ordering}
use Rattle.std.specs.declared.cmp.Ordering.TheVariants.{Less, Greater}
use Rattle.std.proofs.lemmas.Map.Keys.{sorted_head, sorted_tail}

module _ {K X : Type 0} {cmp : K → K → Ordering} (order : IsTotalOrder cmp) (key : K) (value : X) (later : List (K × X)) where
  -- what holds of all keys holds of one that stands among them
  among : (P : K → Type 0) (es : List (K × X)) → AllByRecursion P (keys_of (es ++ (key, value) ∷ later)) → P key
  among P [] all = all.0
  among P (e ∷ es) all = among P es all.1

  -- a key above all keys goes to the end
  pub insert_entry-greatest : (es : List (K × X)) → IsStrictlySortedBy cmp (keys_of (es ++ (key, value) ∷ later)) → insert_entry cmp es key value ≡ es ++ (key, value) ∷ []
  insert_entry-greatest [] rising = refl
  insert_entry-greatest (e ∷ es) rising =
      let rest = keys_of (es ++ (key, value) ∷ later) in
      let below : cmp e.0 key ≡ Less = among (λ k. cmp e.0 k ≡ Less) es (sorted_head cmp e.0 rest rising) in
      let above : cmp key e.0 ≡ Greater = order.antisymm key e.0 ∙ ap ordering_reverse below in
      ap (λ o. match_ordering o ((key, value) ∷ e ∷ es) ((e.0, value) ∷ es) (e ∷ insert_entry cmp es key value)) above
      ∙ ap (λ es. e ∷ es) (insert_entry-greatest es (sorted_tail cmp e.0 rest rising))

  -- the next entry of a map goes to the end of its copy, which with those still left is the map
  pub copy_more : (copied copied' left whole : List (K × X)) → copied ++ left ≡ whole → left ≡ (key, value) ∷ later → IsStrictlySortedBy cmp (keys_of whole) → copied' ≡ insert_entry cmp copied key value → copied' ++ later ≡ whole
  copy_more copied copied' left whole so_far next rising inserted =
      let split : copied ++ (key, value) ∷ later ≡ whole = ap (λ es. copied ++ es) (sym next) ∙ so_far in
      let greatest = insert_entry-greatest copied (subst (λ es. IsStrictlySortedBy cmp (keys_of es)) (sym split) rising) in
      ap (λ es. es ++ later) (inserted ∙ greatest) ∙ append_assoc copied ((key, value) ∷ []) later ∙ split

module _ {K : Type 0} {cmp : K → K → Ordering} (order : IsTotalOrder cmp) (key : K) (later : List K) where
  -- what holds of all keys holds of one that stands among them
  among_keys : (P : K → Type 0) (ks : List K) → AllByRecursion P (ks ++ key ∷ later) → P key
  among_keys P [] all = all.0
  among_keys P (k ∷ ks) all = among_keys P ks all.1

  -- a key above all keys goes to the end
  insert_key-greatest : (ks : List K) → IsStrictlySortedBy cmp (ks ++ key ∷ later) → insert_key cmp ks key ≡ ks ++ key ∷ []
  insert_key-greatest [] rising = refl
  insert_key-greatest (k ∷ ks) rising =
      let below : cmp k key ≡ Less = among_keys (λ q. cmp k q ≡ Less) ks (sorted_head cmp k (ks ++ key ∷ later) rising) in
      let above : cmp key k ≡ Greater = order.antisymm key k ∙ ap ordering_reverse below in
      ap (λ o. match_ordering o (key ∷ k ∷ ks) (k ∷ ks) (k ∷ insert_key cmp ks key)) above ∙ ap (λ ks. k ∷ ks) (insert_key-greatest ks (sorted_tail cmp k (ks ++ key ∷ later) rising))

  -- the next key goes to the end of those that were copied, which with those still left are all
  pub copy_key_more : (copied copied' left whole : List K) → copied ++ left ≡ whole → left ≡ key ∷ later → IsStrictlySortedBy cmp whole → copied' ≡ insert_key cmp copied key → copied' ++ later ≡ whole
  copy_key_more copied copied' left whole so_far next rising inserted =
      let split : copied ++ key ∷ later ≡ whole = ap (λ ks. copied ++ ks) (sym next) ∙ so_far in
      let greatest = insert_key-greatest copied (subst (IsStrictlySortedBy cmp) (sym split) rising) in
      ap (λ ks. ks ++ later) (inserted ∙ greatest) ∙ append_assoc copied (key ∷ []) later ∙ split
