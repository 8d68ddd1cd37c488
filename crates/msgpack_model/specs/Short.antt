-- THE MEANING OF THE SHORT FORM (request 8), over MessagePack's values: of a head, and of an item with everything in it.
use Rattle.std.specs.Prelude.{ℕ, ◌≤◌, Bool, true, List, ◌++◌, ◌↔◌, ◌≡◌, length}
use Rattle.std.proofs.Common.{arith}
use Rattle.slices.specs.Logic.{absurd_numbers}
use Rattle.msgpack_heads.specs.Heads.{text_head, binary_head, map_head}
use Rattle.msgpack_forms.specs.Items.{form_at}
use Rattle.msgpack_model.specs.Encoding.{TextHead, BinaryHead, ExtensionHead, MapHead}
use Rattle.msgpack_model.specs.Writers.{text_head_lem, binary_head_lem, map_head_lem}
use Rattle.msgpack_model.specs.Shorts.{extension_head, Verdict, same, longer, text_verdict, binary_verdict, extension_verdict, map_verdict}
use Rattle.msgpack_model.specs.Encoded.{text_form_lem, binary_form, extension_form_lem, map_form, text_small, binary_small, extension_small, map_small, extension_head_lem}

-- ---- a head

-- no head of this kind and count has fewer bytes
abbrev pub Shortest : (List ℕ → Type 0) → List ℕ → Type 0
Shortest Of h = (g : List ℕ) → Of g → length h ≤ length g

-- from the verdicts: `f` is a head too
module _ (Of : List ℕ → Type 0) (h f : List ℕ) (s : Bool) (there : Of f) (of : (g : List ℕ) → Of g → length f ≤ length g) where
  pub by_verdict : Verdict s h f → s ≡ true ↔ Shortest Of h
  by_verdict (same t q) = (λ e g x. rw q (of g x), λ x. t)
  by_verdict (longer t l) = (λ (e : s ≡ true). absurd_numbers (cc), λ (x : Shortest Of h). absurd (let k = x f there in omega arith))

pub verdict_least : {s : Bool} {h f : List ℕ} → Verdict s h f → length f ≤ length h
verdict_least (same t q) = rw q (omega arith)
verdict_least (longer t l) = omega arith

pub text_head_short : {n : ℕ} {h : List ℕ} → TextHead n h → (rest : List ℕ) → (form_at (h ++ rest)).short ≡ true ↔ Shortest (TextHead n) h
text_head_short {n} {h} x rest = rw (text_form_lem x rest)
    (by_verdict (TextHead n) h (text_head n) _ (text_head_lem n (text_small x)) (λ g y. verdict_least (text_verdict y)) (text_verdict x))

pub binary_head_short : {n : ℕ} {h : List ℕ} → BinaryHead n h → (rest : List ℕ) → (form_at (h ++ rest)).short ≡ true ↔ Shortest (BinaryHead n) h
binary_head_short {n} {h} x rest = rw (binary_form x rest)
    (by_verdict (BinaryHead n) h (binary_head n) _ (binary_head_lem n (binary_small x)) (λ g y. verdict_least (binary_verdict y)) (binary_verdict x))

pub extension_head_short : {n : ℕ} {h : List ℕ} → ExtensionHead n h → (rest : List ℕ) → (form_at (h ++ rest)).short ≡ true ↔ Shortest (ExtensionHead n) h
extension_head_short {n} {h} x rest = rw (extension_form_lem x rest)
    (by_verdict (ExtensionHead n) h (extension_head n) _ (extension_head_lem n (extension_small x)) (λ g y. verdict_least (extension_verdict y)) (extension_verdict x))

pub map_head_short : {n : ℕ} {h : List ℕ} → MapHead n h → (rest : List ℕ) → (form_at (h ++ rest)).short ≡ true ↔ Shortest (MapHead n) h
map_head_short {n} {h} x rest = rw (map_form x rest)
    (by_verdict (MapHead n) h (map_head n) _ (map_head_lem n (map_small x)) (λ g y. verdict_least (map_verdict y)) (map_verdict x))
