-- The scalar that stands at the front of a list, from its head: what an encoding's value is, and that it is encoded there.
use Rattle.std.specs.Prelude.{ℕ, ◌+◌, ◌≤◌, ◌<◌, List, [], ◌++◌, ◌≡◌, length, get_or, take, drop}
use Rattle.std.proofs.Common.{append_assoc, ap, ◌∙◌, arith, length-append}
use Rattle.std.proofs.Math.ListN.{get_or-append}
use Rattle.std.proofs.Math.Seq.{drop-append_seam, take-append_seam}
use Rattle.msgpack.specs.Formats.{unused_kind, array_kind}
use Rattle.msgpack.specs.Items.{Head, head, head_of}
use Rattle.msgpack.specs.PassingLaws.{head_within}
use Rattle.msgpack_model.specs.Values.{Value}
use Rattle.msgpack_model.specs.Encoding.{Encodes}
use Rattle.msgpack_model.specs.Heads.{Begins, scalar_of, Flat}

-- the content that the head asks for, and the scalar that it makes
abbrev pub content_of : List ℕ → List ℕ
content_of s = take (head_of s).count (drop (head_of s).size s)

abbrev pub scalar_at : List ℕ → Value
scalar_at s = scalar_of (head_of s).kind (get_or s 0 0) (content_of s)

-- a whole scalar stands at the front
pub record ScalarFront (s : List ℕ) : Type 0 where
  pub some_kind : 0 < (head_of s).kind
  pub holds_none : (head_of s).kind < array_kind
  pub fits : (head_of s).size + (head_of s).count ≤ length s

-- ---- an encoding's value

begun_size : (kind n : ℕ) (h : List ℕ) → 0 < kind → Begins kind h n → 0 < length h
begun_size kind n h some_kind begun =
    let e = begun [] in
    let z = (head_within (h ++ [])).begun (λ (u : (head_of (h ++ [])).kind ≡ unused_kind). omega (arith, ap (λ (g : Head). g.kind) e)) in
    omega (arith, ap (λ (g : Head). g.size) e)

module _ {v : Value} {e : List ℕ} (f : Flat v e) (rest : List ℕ) where
  joined : e ++ rest ≡ f.top ++ (f.body ++ rest)
  joined = ap (λ l. l ++ rest) f.split ∙ append_assoc f.top f.body rest

  pub flat_head : head_of (e ++ rest) ≡ head f.kind (length f.top) (length f.body)
  flat_head = rw joined (f.begun (f.body ++ rest))

  pub flat_front : ScalarFront (e ++ rest)
  flat_front = record {
    some_kind = rw flat_head f.some_kind;
    holds_none = rw flat_head f.holds_none;
    fits = rw (flat_head, joined, length-append f.top (f.body ++ rest), length-append f.body rest) (omega arith);
  }

  flat_content : content_of (e ++ rest) ≡ f.body
  flat_content = rw (flat_head, joined, drop-append_seam f.top (f.body ++ rest), take-append_seam f.body rest)

  pub flat_value : scalar_at (e ++ rest) ≡ v
  flat_value =
      let first : get_or (f.top ++ (f.body ++ rest)) 0 0 ≡ get_or f.top 0 0
      = get_or-append f.top (f.body ++ rest) 0 0 (begun_size f.kind (length f.body) f.top f.some_kind f.begun) in
      rw (flat_content, flat_head, joined, first) f.is

-- ---- and back

-- a value encoded by the first bytes of a list
pub record There (s : List ℕ) (v : Value) : Type 0 where
  pub size : ℕ
  pub within : size ≤ length s
  pub encoded : Encodes v (take size s)
