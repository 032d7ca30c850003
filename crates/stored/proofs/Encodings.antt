-- The rules accept exactly the encodings: encode then decode is the identity, and what is accepted is the encoding of what it gives.
-- By what a section of an encoding shows, and by what a section that is found is.
-- Assumes nothing.
use Rattle.std.proofs.Common.{Result, Ok}
use mathlib.Core.Path.{◌≡◌, refl, sym, ap, subst, ◌∙◌}
use mathlib.Core.List.{List, [], ◌++◌, append-nil, append_assoc}
use Prim.Native.Nat.{ℕ, ◌+◌, ◌≤◌, ◌<◌}
use native.Mathlib.Omega.{arith}
use lib.ListN.{length, take, drop, length-append, take-append-drop}
use lib.Seq.{take_all, take_at, drop_at}
use Rattle.stored.specs.Stored.{Decodes, encode, encode_section, first_of, stored_of, kinds_of, joints_of, part_of, kinds_tag, joints_tag, head_length, length_values}
use Rattle.stored.specs.Valid.{Bytes, Valid, form_of}
use Rattle.stored.specs.declared.Form.{Form}
use Rattle.stored.specs.declared.Span.{Span}
use Rattle.stored.specs.declared.Broken.{Broken}
use Rattle.stored.proofs.Sections.{encoded_sectioned, length_encode_section, sectioned_written, length_counted, part_fits, part_length}
use Rattle.stored.proofs.Forms.{Formed, FirstSays, no_kinds, no_joints, found, first_says, first_found, StoredSays, no_first, after, all, stored_says, stored_found}

pub length_encode : (ks js : List ℕ) → length (encode ks js) ≡ (form_of ks js).end
unfolding encode
length_encode ks js =
    let kinds : length (encode_section kinds_tag ks) ≡ head_length + length ks = length_encode_section kinds_tag ks in
    let joints : length (encode_section joints_tag js) ≡ head_length + length js = length_encode_section joints_tag js in
    length-append (encode_section kinds_tag ks) (encode_section joints_tag js) ∙ omega arith

-- an encoding that stands first, whatever follows it
formed_encode : (ks js ys : List ℕ) → Formed (encode ks js ++ ys) (form_of ks js)
unfolding encode
formed_encode ks js ys =
    let first : List ℕ = encode_section kinds_tag ks in
    let second : List ℕ = encode_section joints_tag js ++ ys in
    let split : first ++ encode_section joints_tag js ++ ys ≡ first ++ second = append_assoc first (encode_section joints_tag js) ys in
    subst (λ (z : List ℕ). Formed z (form_of ks js)) (sym split)
    (record {
      kinds = encoded_sectioned [] kinds_tag ks second 0 refl;
      joints = encoded_sectioned first joints_tag js ys (head_length + length ks) (length_encode_section kinds_tag ks);
      ends = refl;
    })

-- a form that stands first is found, whatever follows it
pub first_encode : (ks js ys : List ℕ) → first_of (encode ks js ++ ys) ≡ Ok (form_of ks js)
first_encode ks js ys = first_found (formed_encode ks js ys)

formed_alone : (ks js : List ℕ) → Formed (encode ks js) (form_of ks js)
formed_alone ks js = subst (λ (z : List ℕ). Formed z (form_of ks js)) (append-nil (encode ks js)) (formed_encode ks js [])

-- encode then decode: where the parts stand
pub decode_encode : (ks js : List ℕ) → stored_of (encode ks js) ≡ Ok (form_of ks js)
decode_encode ks js = stored_found (formed_alone ks js) (sym (length_encode ks js))

span_part : (xs ys zs : List ℕ) (s : Span) → s.at ≡ length xs → s.len ≡ length ys → part_of (xs ++ (ys ++ zs)) s ≡ ys
span_part xs ys zs s a n =
    let long : length (xs ++ (ys ++ zs)) ≡ length xs + (length ys + length zs) = length-append xs (ys ++ zs) ∙ ap (λ (z : ℕ). length xs + z) (length-append ys zs) in
    part_fits (xs ++ (ys ++ zs)) s (omega arith) ∙ ap (take s.len) (drop_at xs (ys ++ zs) s.at (sym a)) ∙ take_at ys zs s.len (sym n)

section_head : ℕ → List ℕ → List ℕ
section_head tag payload = take head_length (encode_section tag payload)

head_then : (tag : ℕ) (payload : List ℕ) → encode_section tag payload ≡ section_head tag payload ++ payload
unfolding encode_section section_head
head_then tag payload = refl

head_long : (tag : ℕ) (payload : List ℕ) → length (section_head tag payload) ≡ head_length
unfolding encode_section section_head
head_long tag payload = refl

-- encode then decode: the kinds and the joints
pub first_encode_kinds : (ks js ys : List ℕ) → kinds_of (encode ks js ++ ys) (form_of ks js) ≡ ks
unfolding encode kinds_of
first_encode_kinds ks js ys =
    let head : List ℕ = section_head kinds_tag ks in
    let rest : List ℕ = encode_section joints_tag js ++ ys in
    let split : encode_section kinds_tag ks ++ encode_section joints_tag js ++ ys ≡ head ++ (ks ++ rest) = rw (head_then kinds_tag ks) (simp append_assoc) in
    ap (λ (z : List ℕ). part_of z (form_of ks js).kinds) split ∙ span_part head ks rest (form_of ks js).kinds (sym (head_long kinds_tag ks)) refl

pub first_encode_joints : (ks js ys : List ℕ) → joints_of (encode ks js ++ ys) (form_of ks js) ≡ js
unfolding encode joints_of
first_encode_joints ks js ys =
    let first : List ℕ = encode_section kinds_tag ks in
    let head : List ℕ = section_head joints_tag js in
    let split : first ++ encode_section joints_tag js ++ ys ≡ first ++ head ++ (js ++ ys) = rw (head_then joints_tag js) (simp append_assoc) in
    let long : head_length + length ks + head_length ≡ length (first ++ head) = omega (arith, length-append first head, length_encode_section kinds_tag ks, head_long joints_tag js) in
    ap (λ (z : List ℕ). part_of z (form_of ks js).joints) split ∙ span_part (first ++ head) js ys (form_of ks js).joints long refl

pub encode_kinds : (ks js : List ℕ) → kinds_of (encode ks js) (form_of ks js) ≡ ks
encode_kinds ks js = ap (λ (z : List ℕ). kinds_of z (form_of ks js)) (sym (append-nil (encode ks js))) ∙ first_encode_kinds ks js []

pub encode_joints : (ks js : List ℕ) → joints_of (encode ks js) (form_of ks js) ≡ js
encode_joints ks js = ap (λ (z : List ℕ). joints_of z (form_of ks js)) (sym (append-nil (encode ks js))) ∙ first_encode_joints ks js []

-- what stands before the end of a form that is found is the encoding of its parts
pub formed_written : {bs : List ℕ} {f : Form} → Bytes bs → Formed bs f → take f.end bs ≡ encode (kinds_of bs f) (joints_of bs f)
unfolding encode kinds_of joints_of
formed_written {bs} {f} b h =
    ap (λ (z : ℕ). take z bs) h.ends ∙ sectioned_written b h.joints
    ∙ ap (λ (z : List ℕ). z ++ encode_section joints_tag (part_of bs f.joints)) (sectioned_written b h.kinds)

pub formed_counted : {bs : List ℕ} {f : Form} → Bytes bs → Formed bs f → (length (kinds_of bs f) < length_values) × (length (joints_of bs f) < length_values)
unfolding kinds_of joints_of
formed_counted {bs} {f} b h =
    let few_kinds : f.kinds.len < length_values = length_counted b h.kinds.head in
    let few_joints : f.joints.len < length_values = length_counted b h.joints.head in
    (omega (arith, part_length bs f.kinds h.kinds.fits), omega (arith, part_length bs f.joints h.joints.fits))

formed_of_first : {bs : List ℕ} {f : Form} {x : Result Form Broken} → FirstSays bs x → x ≡ Ok f → Formed bs f
formed_of_first (no_kinds h) q = let z : ◌≡◌ {A = ℕ} 0 1 = cc in absurd (omega arith)
formed_of_first (no_joints h e) q = let z : ◌≡◌ {A = ℕ} 0 1 = cc in absurd (omega arith)
formed_of_first {bs} {f} (found {f = g} h) q = let same : g ≡ f = cc in subst (λ (z : Form). Formed bs z) same h

-- what a form that is found first shows
pub first_formed : (bs : List ℕ) {f : Form} → first_of bs ≡ Ok f → Formed bs f
first_formed bs q = formed_of_first (first_says bs) q

-- a form that stands alone in its bytes
pub record Alone (bs : List ℕ) (f : Form) : Type 0 where
  pub formed : Formed bs f
  pub ended : f.end ≡ length bs

formed_of_stored : {bs : List ℕ} {f : Form} {x : Result Form Broken} → StoredSays bs x → x ≡ Ok f → Alone bs f
formed_of_stored (no_first e h) q = let z : ◌≡◌ {A = ℕ} 0 1 = cc in absurd (omega arith)
formed_of_stored (after h l) q = let z : ◌≡◌ {A = ℕ} 0 1 = cc in absurd (omega arith)
formed_of_stored {bs} {f} (all {f = g} h e) q = let same : g ≡ f = cc in subst (λ (z : Form). Alone bs z) same (record { formed = h; ended = e })

pub stored_formed : (bs : List ℕ) {f : Form} → stored_of bs ≡ Ok f → Alone bs f
stored_formed bs q = formed_of_stored (stored_says bs) q

-- what is accepted is the encoding of what it gives
pub accepted_is_encoding : (bs : List ℕ) (f : Form) → Bytes bs → stored_of bs ≡ Ok f → bs ≡ encode (kinds_of bs f) (joints_of bs f)
accepted_is_encoding bs f b q =
    let alone : Alone bs f = stored_formed bs q in
    let upto : length bs ≤ f.end = omega (arith, alone.ended) in
    sym (take_all f.end bs upto) ∙ formed_written b alone.formed

-- a form that is found first is the encoding of what it gives, and the rest follows it
pub first_is_encoding : (bs : List ℕ) (f : Form) → Bytes bs → first_of bs ≡ Ok f → bs ≡ encode (kinds_of bs f) (joints_of bs f) ++ drop f.end bs
first_is_encoding bs f b q = sym (take-append-drop f.end bs) ∙ ap (λ (z : List ℕ). z ++ drop f.end bs) (formed_written b (first_formed bs q))

-- encode then decode is the identity
pub encode_then_decode : (ks js : List ℕ) → Decodes (encode ks js) ks js
encode_then_decode ks js = record { form = form_of ks js; accepted = decode_encode ks js; its_kinds = encode_kinds ks js; its_joints = encode_joints ks js }

-- and so is decode then encode
pub decode_then_encode : {bs ks js : List ℕ} → Bytes bs → Decodes bs ks js → encode ks js ≡ bs
decode_then_encode {bs} {ks} {js} b d = cc (accepted_is_encoding bs d.form b d.accepted, d.its_kinds, d.its_joints)

-- two bytes count the kinds and the joints of a form that is found
pub first_counted : (bs : List ℕ) (f : Form) → Bytes bs → first_of bs ≡ Ok f → (length (kinds_of bs f) < length_values) × (length (joints_of bs f) < length_values)
first_counted bs f b q = formed_counted b (first_formed bs q)

-- what is accepted is valid
pub accepted_is_valid : (bs : List ℕ) (f : Form) → Bytes bs → stored_of bs ≡ Ok f → Valid bs
accepted_is_valid bs f b q =
    let counted = formed_counted b (stored_formed bs q).formed in
    record {
      kinds = kinds_of bs f;
      joints = joints_of bs f;
      kinds_counted = counted.0;
      joints_counted = counted.1;
      written = accepted_is_encoding bs f b q;
      bytes = b;
    }

-- what is valid is accepted
pub valid_is_accepted : {bs : List ℕ} (v : Valid bs) → stored_of bs ≡ Ok (form_of v.kinds v.joints)
valid_is_accepted v = ap stored_of v.written ∙ decode_encode v.kinds v.joints

-- for callers

-- a form that stands first ends within the bytes, and reading forms one after the other goes on
pub first_ends_within : (bs : List ℕ) {f : Form} {x : Result Form Broken} → x ≡ first_of bs → x ≡ Ok f → f.end ≤ length bs
first_ends_within bs {f} p q = let h : Formed bs f = first_formed bs (sym p ∙ q) in omega (arith, h.ends, h.joints.fits)

pub first_goes_on : (bs : List ℕ) {f : Form} {x : Result Form Broken} → x ≡ first_of bs → x ≡ Ok f → 0 < f.end
first_goes_on bs {f} p q = let h : Formed bs f = first_formed bs (sym p ∙ q) in omega (arith, h.ends, h.joints.start)

-- the parts are as long as the form says
pub kinds_length : (bs : List ℕ) {f : Form} {x : Result Form Broken} → x ≡ first_of bs → x ≡ Ok f → length (kinds_of bs f) ≡ f.kinds.len
unfolding kinds_of
kinds_length bs {f} p q = part_length bs f.kinds (first_formed bs (sym p ∙ q)).kinds.fits

pub joints_length : (bs : List ℕ) {f : Form} {x : Result Form Broken} → x ≡ first_of bs → x ≡ Ok f → length (joints_of bs f) ≡ f.joints.len
unfolding joints_of
joints_length bs {f} p q = part_length bs f.joints (first_formed bs (sym p ∙ q)).joints.fits

-- a form that stands alone is one that stands first
pub stored_is_first : (bs : List ℕ) {f : Form} → stored_of bs ≡ Ok f → first_of bs ≡ Ok f
stored_is_first bs q = first_found (stored_formed bs q).formed
