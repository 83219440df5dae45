-- What was loaded has the layout, the session and the needed entries that are found in the image, also where reads of nodes failed.
use Rattle.std.proofs.Common.{◌≡◌, ℕ, List, Option, Some, Result, Ok, ap, ◌∙◌, sym, subst}
use Rattle.std.specs.Option.{ok_or}
use Rattle.dev_model.specs.Disk.{Image}
use Rattle.geometry.specs.Sessions.{session_in}
use Rattle.image_view.specs.BaseLaws.{found-layout, found-newest, found-session}
use Rattle.image_view.specs.Found.{Found, found, super_fault}
use Rattle.image_view.specs.declared.fault.MountFault.TheVariants.{MissingEntry, NoEntry}
use Rattle.journal_ring.specs.Counting.{needed_by, newest}
use Rattle.journal_ring.specs.Parts.{area_of}
use Rattle.journal_ring.specs.declared.found.FoundEntry.{FoundEntry}
use Rattle.key_codec.specs.Combined.{ok_is}
use Rattle.key_codec.specs.Formats.{◌>>=◌, carried}
use Rattle.image_reader.specs.Answers.{IsFront}
use Rattle.image_reader.specs.Volumes.{entries_in, with_last}
use Rattle.vol_types.specs.declared.layout.Layout.{Layout}

-- The layout, the session and the needed entries are those of what is found.
pub record HasFront (f : Found) (layout : Layout) (session : ℕ) (needed : List FoundEntry) : Type 0 where
  pub layouts : f.layout ≡ layout
  pub sessions : f.session ≡ session
  pub needs : f.needed ≡ needed

pub front_is : (image : Image) (f : Found) → found image ≡ Ok f → (layout : Layout) (session : ℕ) (needed : List FoundEntry) → IsFront image layout session needed → HasFront f layout session needed
front_is image f is layout session needed front =
    let layouts : f.layout ≡ layout = ok_is f.layout layout (sym (ap (carried super_fault) (found-layout image f is)) ∙ front.layout_is) in
    let names = subst (λ (l : Layout). session_in l image ≡ Some f.session) layouts (found-session image f is) in
    let last = subst (λ (l : Layout). newest l (area_of image) ≡ Some f.last) layouts (found-newest image f is).last in
    let needs = subst (λ (l : Layout). needed_by l (area_of image) f.last ≡ Ok f.needed) layouts (found-newest image f is).needed in
    let entries : entries_in layout (area_of image) ≡ Ok (f.last, f.needed) =
    ap (λ (o : Option FoundEntry). ok_or o NoEntry >>= (λ newest. carried MissingEntry (needed_by layout (area_of image) newest) >>= (λ entries. Ok (newest, entries)))) last
    ∙ ap (λ (r : Result (List FoundEntry) ℕ). carried MissingEntry r >>= (λ entries. Ok (f.last, entries))) needs in
    record {
      layouts = layouts;
      sessions = ok_is f.session session (sym (ap (λ (o : Option ℕ). ok_or o NoEntry) names) ∙ front.session_is);
      needs = ap (λ (p : FoundEntry × List FoundEntry). p.1) (ok_is (f.last, f.needed) (with_last needed) (sym entries ∙ front.entries_are));
    }
