-- What orders say of what they gave.
use Rattle.std.proofs.Common.{◌≡◌, ℕ, [], length, Option, Some, None, option_map, Ok, Err, refl, sym, ap, ◌∙◌, subst, arith}
use Rattle.std.specs.Prelude.{◌<◌, IsSome, IfSome}
use Rattle.document_parts.specs.Documents.{MetaFile, Root, Snapshot, Targets, Listing}
use Rattle.metadata.specs.File.{Bytes, Name, File, IsFileOf, document_of, root_form, targets_form}
use Rattle.metadata.specs.Shaped.{reads, faulty}
use Rattle.denials.specs.Numbers as no
use Rattle.denials.specs.Orders.{BlobMissing, Same, Judged, pass, decide, holds, fails, same, given, need, need_or, check, give, ◌>>=◌, ◌>>◌}
use Rattle.delegations.specs.Rows.{entry_of, place_before, row_at, with_row}
use Rattle.delegations.specs.Search.{shelf_of}
use Rattle.limits.specs.Limits.{most_held}
use Rattle.trust_rules.specs.State.{FollowsRoot, State, Trusted, blob_at}
use Rattle.trust_rules.specs.Offers.{AfterRoot, RootOffer, TargetsOffer, live_snapshot, named_targets, offer, renew_root}
use Rattle.trust_rules.specs.Grants.{Listed, grants, listed}
use Rattle.trust_rules.proofs.GrantsEnd.{NeverSame, check-never, live-never, need-never, then-never}
use Rattle.trust_rules.proofs.LinesGive.{given_by, live_gives, needed}
use Rattle.trust_rules.proofs.MissedFiles.{granted_tells}
use Rattle.trust_rules.proofs.RootChains.{once}
use Rattle.trust_rules.proofs.ShapedOnce.{Shapes}

-- ---- bytes that are granted

blob_is : (path : Bytes) (l : Listing) (o : Option Bytes) (b : Bytes) → (need_or (BlobMissing path l.digest l.len) o >>= (λ blob. (check no.blob_length (length blob ≡ l.len)) >> give blob)) (Ok b)
    → (o ≡ Some b) × (length b ≡ l.len)
blob_is path l o _ (pass {a = c} h (pass (holds e) given)) = (needed _ o c h, e)

pub granted_blob : (S : State) (path b : Bytes) (asked : Option Bytes) (now : ℕ) → grants S path asked now (Ok b)
    → (at : Listed) × listed S.trusted path now (Ok at) × (blob_at S.blobs at.listing.digest ≡ Some b) × (length b ≡ at.listing.len) × IfSome asked (λ digest. at.listing.digest ≡ digest)
granted_blob S path b asked now h =
    let g = granted_tells S path asked now b h in
    let blob = blob_is path g.found.listing (blob_at S.blobs g.found.listing.digest) b g.blob in (
      record { root = g.root.body; shelf = shelf_of g.root g.snap S.trusted.shelf; listing = g.found.listing },
      pass (holds g.is_path) (pass (subst (λ (o : Option (File Root)). need no.no_root o (Ok g.root)) (sym g.trusts) given) (pass g.live (pass g.finds given))),
      blob.0,
      blob.1,
      g.is_asked,
    )

-- ---- targets documents

abbrev IsPut : Trusted → File Snapshot → Name → Bytes → Trusted → Type 0
IsPut T snap role b U = (entry : MetaFile) × (new : File Targets) × (entry_of snap role ≡ Some entry) × IsFileOf targets_form new × (new.bytes ≡ b)
    × (U ≡ record T { shelf = with_row place_before T.shelf (role, entry.version) new })

some_snap : (x y : File Snapshot) → Some x ≡ Some y → x ≡ y
some_snap x y e = cc

same_snap : (T : Trusted) (root : File Root) (snap x : File Snapshot) (now : ℕ) → T.snapshot ≡ Some snap → live_snapshot T.timestamp T.snapshot root now (Ok x) → x ≡ snap
same_snap T root snap x now held live = some_snap x snap (sym (given_by (λ (s : File Snapshot). T.snapshot ≡ Some s) _ x (live_gives T root now) live) ∙ held)

pub put_tells : (T U : Trusted) (snap : File Snapshot) (role : Name) (b : Bytes) (now : ℕ) → T.snapshot ≡ Some snap → offer T (TargetsOffer role) b now (Ok U) → IsPut T snap role b U
put_tells T _ snap role b now held (pass {a = root} k (pass {a = new} (reads doc is) (pass {a = x} l (pass {a = entry} e (pass n (pass v (pass f (pass d (pass t (pass r given)))))))))) =
    (entry, new, subst (λ (s : File Snapshot). entry_of s role ≡ Some entry) (same_snap T root snap x now held l) (needed _ (entry_of x role) entry e), doc, is, refl)

some_there : {A B : Type 0} (f : A → B) (o : Option A) (b : B) → option_map f o ≡ Some b → IsSome o
some_there f (Some a) b e = refl
some_there f None b e = let k : None ≡ Some b = e in absurd cc

named-never : (entry : MetaFile) (new : File Targets) → NeverSame (named_targets entry new)
named-never entry new = then-never _ _ (check-never _ _) (λ _. then-never _ _ (check-never _ _) (λ _. check-never _ _))

pub same_tells : (T : Trusted) (snap : File Snapshot) (role : Name) (b : Bytes) (now : ℕ) → T.snapshot ≡ Some snap → offer T (TargetsOffer role) b now (Err Same)
    → (entry : MetaFile) × (entry_of snap role ≡ Some entry) × IsSome (row_at T.shelf role entry.version)
same_tells T snap role b now held (pass {a = root} k (pass {a = new} r (pass {a = x} l (pass {a = entry} e (pass n (pass v (pass f (decide (same is))))))))) = (
  entry,
  subst (λ (s : File Snapshot). entry_of s role ≡ Some entry) (same_snap T root snap x now held l) (needed _ (entry_of x role) entry e),
  some_there (λ (f : File Targets). f.bytes) (row_at T.shelf role entry.version) new.bytes is,
)
same_tells T snap role b now held (decide h) = absurd (need-never _ T.root h)
same_tells T snap role b now held (pass k (decide r)) = elim r [ ]
same_tells T snap role b now held (pass {a = root} k (pass r (decide l))) = absurd (live-never (record { trusted = T; blobs = [] }) root now l)
same_tells T snap role b now held (pass k (pass r (pass {a = x} l (decide e)))) = absurd (need-never _ (entry_of x role) e)
same_tells T snap role b now held (pass k (pass {a = new} r (pass l (pass {a = entry} e (decide n))))) = absurd (named-never entry new n)
same_tells T snap role b now held (pass k (pass r (pass l (pass e (pass n (decide v)))))) = elim v [ ]
same_tells T snap role b now held (pass k (pass r (pass l (pass e (pass n (pass v (decide f))))))) = elim f [ ]
same_tells T snap role b now held (pass k (pass r (pass l (pass e (pass n (pass v (pass f (pass d (decide t))))))))) = elim t [ ]
same_tells T snap role b now held (pass k (pass r (pass l (pass e (pass n (pass v (pass f (pass d (pass t (decide g)))))))))) = elim g [ ]
same_tells T snap role b now held (pass k (pass r (pass l (pass e (pass n (pass v (pass f (pass d (pass t (pass g i)))))))))) = elim i [ ]

-- ---- roots

module _ (law : Shapes) where
  module _ (T : Trusted) (old new : File Root) (now : ℕ) (trusts : T.root ≡ Some old) (read : IsFileOf root_form old) (doc : IsFileOf root_form new) (follows : FollowsRoot old new)
      (room : length T.roots < most_held) where
    renewed : (j : Judged Trusted) → renew_root T old new j → AfterRoot T old new j
    renewed _ (decide (fails f)) = absurd (f follows.next)
    renewed _ (pass v (decide (fails f))) = absurd (f follows.profile)
    renewed _ (pass v (pass p (decide (fails f)))) = absurd (f follows.by_old)
    renewed _ (pass v (pass p (pass b (decide (fails f))))) = absurd (f follows.by_new)
    renewed _ (pass v (pass p (pass b (pass c (decide (fails f)))))) = absurd (f room)
    renewed j (pass v (pass p (pass b (pass c (pass r after))))) = after

    some_root : (x y : File Root) → Some x ≡ Some y → x ≡ y
    some_root x y e = cc

    is_old : (o : File Root) → need no.no_root T.root (Ok o) → o ≡ old
    is_old o k = some_root o old (sym (needed _ T.root o k) ∙ trusts)

    there : (s : _) → need no.no_root T.root (Err s) → ⊥
    there s k = none s (subst (λ (o : Option (File Root)). need no.no_root o (Err s)) trusts k)
      where
        none : (s : _) → need no.no_root (Some old) (Err s) → ⊥
        none s h = elim h [ ]

    pub root_taken : (j : Judged Trusted) → offer T RootOffer new.bytes now j → AfterRoot T old new j
    root_taken _ (decide h) = absurd (there _ h)
    root_taken _ (pass {a = o} k (decide (same e))) =
        let one : new ≡ old = once law new old doc read (e ∙ ap (λ (r : File Root). r.bytes) (is_old o k)) in
        let version = follows.next in
        let again : new.body.version ≡ old.body.version = ap (λ (r : File Root). r.body.version) one in
        absurd (omega (arith, version, again))
    root_taken _ (pass {a = o} k (pass d (decide (faulty f x)))) = absurd (law.none root_form.kind new.bytes (document_of root_form new) f doc x)
    root_taken j (pass {a = o} k (pass d (pass {a = n} (reads nd e) m))) =
        renewed j (subst (λ (r : File Root). renew_root T old r j) (once law n new nd doc e) (subst (λ (r : File Root). renew_root T r n j) (is_old o k) m))
