-- The places told of a record that was read: its primary part lies within its value, and its texts within that.
use Prim.Native.Nat.{ℕ}
use mathlib.Core.Bool.{Bool}
use mathlib.Core.List.{List}
use mathlib.Core.Path.{◌≡◌, refl, sym, ap, subst, ◌∙◌}
use native.Mathlib.Omega.{arith}
use Rattle.slices.specs.Logic.{absurd_numbers}
use Rattle.slices.specs.Places.{part_at, Within, within_inside, shift_place, shifted_within}
use Rattle.slices.specs.declared.Place.{Place}
use Rattle.refusals.specs.Answers.{Answer, refused, granted, is_result}
use Rattle.refusals.specs.Limit.{pack_limit}
use Rattle.value.specs.ReadingLaws.{parts_inside}
use Rattle.value.specs.declared.Told.{Told}
use Rattle.primary.specs.Answers.{texts_in, AllInside}
use Rattle.primary.specs.declared.Texts.{Texts}
use Rattle.records.specs.Record as records
use Rattle.records.specs.Record.{version_tag, read_record, can_be_read, part_from, told_from, record_from, answer_from}
use Rattle.records.specs.Laws.{read_as}
use Rattle.records.specs.Answers.{record_in, place_of_part, PlacesInside}
use Rattle.records.specs.declared.Fault.{Fault}
use Rattle.records.specs.declared.Kind.{Kind}
use Rattle.records.specs.declared.Kind.TheVariants as kind-answer
use Rattle.records.specs.declared.Record.{Record}
use Rattle.current_version.specs.Current as current
use Rattle.current_version.specs.Roles.{version_role}
use Rattle.lookup_records.specs.Answers.{role_for, role_in, VersionTold, RoleInside}
use Rattle.lookup_records.specs.declared.Role.TheVariants.{Version, Deletion, Other, Unreadable}

module _ (s : List ℕ) (value : Place) where
  version_inside : (primary : Place) (t : Texts) (deleted : Bool) → VersionTold s value primary t → RoleInside s value (Version primary t deleted)
  version_inside primary t deleted h = record {
    version = λ p u d e.
        let there : primary ≡ p = cc in
        let same : t ≡ u = cc in
        rw (← there, ← same) h;
    deletion = λ u e. absurd_numbers (cc);
  }

  deletion_inside : (t : Texts) → AllInside s t → RoleInside s value (Deletion t)
  deletion_inside t h = record {
    version = λ p u d e. absurd_numbers (cc);
    deletion = λ u e. let same : t ≡ u = cc in subst (λ v. AllInside s v) same h;
  }

  pub other_inside : RoleInside s value Other
  other_inside = record { version = λ p u d e. absurd_numbers (cc); deletion = λ u e. absurd_numbers (cc) }

  pub unreadable_inside : (f : Fault) → RoleInside s value (Unreadable f)
  unreadable_inside f = record { version = λ p u d e. absurd_numbers (cc); deletion = λ u e. absurd_numbers (cc) }

  -- a record that was read: `x` is what its value tells
  module _ (tag : ℕ) (d : Record) (h : PlacesInside s d) where
    abbrev primary : Place
    primary = place_of_part d.told.primary

    texts_inside : AllInside s d.identifier
    texts_inside = record {
      ulid = within_inside s h.told.primary h.contents.ulid;
      bucket = within_inside s h.told.primary h.contents.bucket;
      object = within_inside s h.told.primary h.contents.object;
    }

    module _ (x : records.Record) (read : read_record pack_limit tag (part_at s value) ≡ granted x) (told : d.told ≡ told_from value.start x.told) where
      primary_within : Within value primary
      primary_within =
          let parts = parts_inside pack_limit (part_at s value) x.told (read_as pack_limit tag (part_at s value) x read).value_tells in
          let there : primary ≡ shift_place value.start (place_of_part x.told.primary) = ap (λ (t : Told). place_of_part t.primary) told in
          rw there (shifted_within s value (place_of_part x.told.primary) (record { end = omega (arith, parts.primary_first, parts.secondary_last) }))

      version_told : (deleted : Bool) → current.role pack_limit tag (part_at s value) ≡ current.version (texts_in s d.identifier) deleted
          → VersionTold s value primary d.identifier
      unfolding can_be_read
      version_told deleted role-is =
          let tag_is = (version_role pack_limit tag (part_at s value) (texts_in s d.identifier) deleted role-is).tag_is in
          let version_read : read_record pack_limit version_tag (part_at s value) ≡ granted x = ap (λ n. read_record pack_limit n (part_at s value)) (sym tag_is) ∙ read in
          record {
            readable = ap is_result version_read;
            primary_is = λ r e.
                let both : granted x ≡ granted r = sym version_read ∙ e in
                let same : x ≡ r = cc in
                ap (λ (t : Told). place_of_part t.primary) told ∙ ap (λ (y : records.Record). place_of_part (part_from value.start y.told.primary)) same;
            primary_within = primary_within;
            identifier = record { ulid = h.contents.ulid; bucket = h.contents.bucket; object = h.contents.object };
          }

      by_kind : (k : Kind) → role_in s (role_for primary d.identifier k) ≡ current.role pack_limit tag (part_at s value)
          → RoleInside s value (role_for primary d.identifier k)
      by_kind kind-answer.Block e = other_inside
      by_kind (kind-answer.Version deleted) e = version_inside primary d.identifier deleted (version_told deleted (sym e))
      by_kind (kind-answer.VersionDelete id) e = deletion_inside d.identifier texts_inside
      by_kind kind-answer.PackList e = other_inside

    pub role_inside : granted (record_in s d) ≡ answer_from value.start (read_record pack_limit tag (part_at s value))
        → role_in s (role_for primary d.identifier d.kind) ≡ current.role pack_limit tag (part_at s value)
        → RoleInside s value (role_for primary d.identifier d.kind)
    role_inside read e = by (read_record pack_limit tag (part_at s value)) refl read
      where
        by : (a : Answer records.Record) → read_record pack_limit tag (part_at s value) ≡ a → granted (record_in s d) ≡ answer_from value.start a
            → RoleInside s value (role_for primary d.identifier d.kind)
        by (granted x) r f =
            let same : record_in s d ≡ record_from value.start x = cc in
            by_kind x r (ap (λ (q : records.Record). q.told) same) d.kind e
        by (refused n) r f = absurd_numbers (cc)
