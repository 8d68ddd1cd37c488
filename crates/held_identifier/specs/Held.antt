-- How the code holds an identifier: arrays, with the lengths of bucket and object. The bytes past the lengths are zeros where it was read, and play no part.
use Rattle.std.specs.Prelude.{ℕ, ◌-◌, ◌≡◌, Bool, true, false, cond, ◌&&◌, List, ◌++◌, leb, length, take, replicate}
use Rattle.std.proofs.Common.{sym, ap, true≢false, le-leb}
use Rattle.std.specs.Prelude.{Option, None, Some}
use Rattle.std.proofs.Math.Seq.{take-append_seam}
use Rattle.slices.specs.Bytes.{same_bytes}
use Rattle.identifier.specs.Identity.{Identity, identity, is_valid, same_identity, Sizes, same_identity_refl, same_identity_true}
use Rattle.held_identifier.specs.declared.Identifier.{Identifier}
use Rattle.held_identifier.specs.declared.Texts.{Texts}

-- what a struct names: nothing where a length is out of range
unfoldable pub named : Identifier → Option Identity
named s =
    cond (leb s.bucketlen 63 && leb s.objectlen 1024)
    (Some (identity s.ulid (take s.bucketlen s.bucket) (take s.objectlen s.object)))
    None

-- the same of the texts lent
abbrev pub texts_of : Option Texts → Option Identity
texts_of (Some t) = Some (identity t.ulid.now t.bucket.now t.object.now)
texts_of None = None

-- what is named keeps the rules
unfoldable pub is_admitted : Option Identity → Bool
is_admitted None = false
is_admitted (Some i) = is_valid i

-- both name something, and the same
unfoldable pub same : Option Identity → Option Identity → Bool
same None j = false
same (Some i) None = false
same (Some i) (Some j) = same_identity i j

-- what is named has this bucket and this object
unfoldable pub has_name : Option Identity → List ℕ → List ℕ → Bool
has_name None b o = false
has_name (Some i) b o = same_bytes i.bucket b && same_bytes i.object o

-- the text with zeros after it, n bytes in all
unfoldable pub padded : ℕ → List ℕ → List ℕ
padded n s = s ++ replicate (n - length s) 0

-- the struct that holds an identifier
unfoldable pub held : Identity → Identifier
held i = record {
  ulid = i.ulid;
  bucket = padded 63 i.bucket;
  bucketlen = length i.bucket;
  object = padded 1024 i.object;
  objectlen = length i.object;
}

-- the struct that holds none: zeros
unfoldable pub zeros : Identifier
zeros = record { ulid = replicate 26 0; bucket = replicate 63 0; bucketlen = 0; object = replicate 1024 0; objectlen = 0 }

-- what a reading answers: an identifier held, or that there is none
unfoldable pub answered : Option Identity → Option Identifier
answered None = None
answered (Some i) = Some (held i)

-- ---- what is held is what was to be held

pub named_held : (i : Identity) → Sizes i → named (held i) ≡ Some i
unfolding named held padded
named_held i s =
    rw (
      le-leb (length i.bucket) 63 s.bucketmost,
      le-leb (length i.object) 1024 s.objectmost,
      take-append_seam
          i.bucket,
      take-append_seam i.object,
    )

-- ---- structs that compare the same name the same

pub same_true : (x y : Option Identity) → same x y ≡ true → x ≡ y
unfolding same
same_true None y e = absurd (true≢false (sym e))
same_true (Some i) None e = absurd (true≢false (sym e))
same_true (Some i) (Some j) e = ap Some (same_identity_true i j e)

pub same_refl : (i : Identity) → same (Some i) (Some i) ≡ true
unfolding same
same_refl i = same_identity_refl i

-- ---- the bytes past the lengths play no part: what is named is all that admission, comparison and writing look at

pub past_lengths_ignored : (r s : Identifier) → r.ulid ≡ s.ulid → r.bucketlen ≡ s.bucketlen → r.objectlen ≡ s.objectlen
    → take r.bucketlen r.bucket ≡ take s.bucketlen s.bucket → take r.objectlen r.object ≡ take s.objectlen s.object
    → named r ≡ named s
unfolding named
past_lengths_ignored r s u n m b o = rw (b, o, u, n, m)
