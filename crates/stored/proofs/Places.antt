-- The place of refusal 10 is right in both directions: the bytes before it can be completed to a valid form, with the byte at it they
-- can't, and more bytes after that byte change nothing. By the cases of `stored_of`: a wrong tag, a byte after the form, or an early end.
-- Assumes nothing.
use Rattle.std.proofs.Common.{Result}
use mathlib.Core.Path.{◌≡◌, refl, sym, ap, ◌∙◌}
use mathlib.Core.List.{List, [], ◌++◌, append-nil, append_assoc}
use Prim.Native.Nat.{ℕ, suc, ◌≤◌, ◌<◌}
use native.Mathlib.Omega.{arith}
use lib.ListN.{length, take}
use Rattle.stored.specs.Stored.{broken_at, encode, encode_section, section_of, first_of, stored_of, kinds_of, joints_of, part_of, kinds_tag, joints_tag, length_values, end_of}
use Rattle.stored.specs.Valid.{Bytes, Valid, Place}
use Rattle.stored.specs.declared.Form.{Form}
use Rattle.stored.specs.declared.Span.{Span}
use Rattle.stored.specs.declared.Broken.{Broken}
use Rattle.stored.proofs.Bytes.{bytes_nil, bytes_append, bytes_take, bytes_section}
use Rattle.stored.proofs.Laws.{same_place, section_payload, section_broken}
use Rattle.stored.proofs.Cases.{Sectioned}
use Rattle.stored.proofs.Sections.{Begins, begins_take, begins_append, sectioned_again, section_found, section_other, section_inside, Other, Completes, section_completes, sectioned_written, length_counted, part_length}
use Rattle.stored.proofs.Forms.{Formed, formed_again, FirstSays, no_kinds, no_joints, found, first_says, StoredSays, no_first, after, all, stored_says, stored_no_first, stored_after}
use Rattle.stored.proofs.Encodings.{formed_written, formed_counted, valid_is_accepted}

-- with the byte at the place

first_broken_at : (xs : List ℕ) {p : ℕ} → section_of xs 0 kinds_tag ≡ broken_at p → first_of xs ≡ broken_at p
unfolding first_of
first_broken_at xs q = sym (section_broken _ _ refl q refl)

first_broken_after : (xs : List ℕ) {k : Span} {p : ℕ} → Sectioned xs 0 kinds_tag k → section_of xs (end_of k) joints_tag ≡ broken_at p → first_of xs ≡ broken_at p
unfolding first_of
first_broken_after xs h q = sym (section_payload _ _ refl (section_found h) (section_broken _ _ refl q refl))

-- the tag differs in all bytes that begin with the same
other_again : (bs xs : List ℕ) (at tag p : ℕ) → Begins (suc p) bs xs → section_of bs at tag ≡ broken_at p → p < length bs → section_of xs at tag ≡ broken_at p
other_again bs xs at tag p b q l =
    let o : Other bs at tag p = section_inside bs at tag q l in
    let here : at < suc p = omega (arith, o.here) in
    let there : at < length xs = omega (arith, b.far) in
    section_other xs at tag there (λ e. o.differs (sym (b.same at here) ∙ e)) ∙ ap broken_at o.here

first_again_of : {bs xs : List ℕ} {p : ℕ} {x : Result Form Broken} → Begins (suc p) bs xs → p < length bs → FirstSays bs x → x ≡ broken_at p → first_of xs ≡ broken_at p
first_again_of {bs} {xs} {p} b l (no_kinds {p = q} h) e =
    let same : q ≡ p = same_place e in
    first_broken_at xs (other_again bs xs 0 kinds_tag p b (h ∙ ap broken_at same) l)
first_again_of {bs} {xs} {p} b l (no_joints {k = k} {p = q} s h) e =
    let same : q ≡ p = same_place e in
    let there : section_of bs (end_of k) joints_tag ≡ broken_at p = h ∙ ap broken_at same in
    let o : Other bs (end_of k) joints_tag p = section_inside bs (end_of k) joints_tag there l in
    first_broken_after xs (sectioned_again b (omega (arith, o.here)) s) (other_again bs xs (end_of k) joints_tag p b there l)
first_again_of b l (found h) e = let z : ◌≡◌ {A = ℕ} 0 1 = cc in absurd (omega arith)

-- bytes that begin as those did, with the byte at the place, are broken at the same place
pub first_broken_stays : (bs xs : List ℕ) {p : ℕ} → Begins (suc p) bs xs → p < length bs → first_of bs ≡ broken_at p → first_of xs ≡ broken_at p
first_broken_stays bs xs b l q = first_again_of b l (first_says bs) q

stored_again_of : {bs xs : List ℕ} {p : ℕ} {x : Result Form Broken} → Begins (suc p) bs xs → p < length bs → StoredSays bs x → x ≡ broken_at p → stored_of xs ≡ broken_at p
stored_again_of {bs} {xs} {p} b l (no_first {p = q} h s) e = let same : q ≡ p = same_place e in stored_no_first xs (first_again_of b l s e)
stored_again_of {bs} {xs} {p} b l (after {f = f} h k) e =
    let same : f.end ≡ p = same_place e in
    stored_after (formed_again b (omega arith) h) (omega (arith, b.far)) ∙ ap broken_at same
stored_again_of b l (all h k) e = let z : ◌≡◌ {A = ℕ} 0 1 = cc in absurd (omega arith)

pub stored_broken_stays : (bs xs : List ℕ) {p : ℕ} → Begins (suc p) bs xs → p < length bs → stored_of bs ≡ broken_at p → stored_of xs ≡ broken_at p
stored_broken_stays bs xs b l q = stored_again_of b l (stored_says bs) q

-- "first byte that fits no valid form": with the byte at the place, no bytes after it make a valid form
pub place_stuck : (bs : List ℕ) (p : ℕ) → stored_of bs ≡ broken_at p → p < length bs → (t : List ℕ) → Valid (take (suc p) bs ++ t) → ⊥
place_stuck bs p q l t v =
    let here : stored_of (take (suc p) bs ++ t) ≡ broken_at p = stored_broken_stays bs (take (suc p) bs ++ t) (begins_take bs t (suc p) (omega arith)) l q in
    let whole = valid_is_accepted v in
    let z : ◌≡◌ {A = ℕ} 0 1 = cc in
    omega arith

-- more bytes after the byte at the place change nothing
pub more_bytes_change_nothing : (bs t : List ℕ) (p : ℕ) → stored_of bs ≡ broken_at p → p < length bs → stored_of (bs ++ t) ≡ broken_at p
more_bytes_change_nothing bs t p q l =
    let whole : Begins (length bs) bs (bs ++ t) = begins_append bs t in
    let b : Begins (suc p) bs (bs ++ t) = record { far = omega (arith, whole.far); same = λ i k. whole.same i (omega arith) } in
    stored_broken_stays bs (bs ++ t) b l q

-- before the place

-- the bytes before a place can be completed to a valid form
pub record Completable (bs : List ℕ) (p : ℕ) : Type 0 where
  pub within : p ≤ length bs
  pub rest : List ℕ
  pub before : Valid (take p bs ++ rest)

-- kinds that can be completed, and no joints
complete_kinds : {bs : List ℕ} {p : ℕ} → Bytes bs → Completes bs 0 kinds_tag p → Completable bs p
unfolding encode
complete_kinds {bs} {p} b c =
    let none : List ℕ = encode_section joints_tag [] in
    record {
      within = c.within;
      rest = c.rest ++ none;
      before = record {
        kinds = c.payload;
        joints = [];
        kinds_counted = c.counted;
        joints_counted = omega arith;
        written = sym (append_assoc (take p bs) c.rest none) ∙ ap (λ (z : List ℕ). z ++ none) c.written;
        bytes = bytes_append (take p bs) (c.rest ++ none) (bytes_take p bs b) (bytes_append c.rest none c.rest_bytes (bytes_section joints_tag [] (omega arith) (omega arith) bytes_nil));
      };
    }

-- whole kinds, and joints that can be completed
complete_joints : {bs : List ℕ} {k : Span} {p : ℕ} → Bytes bs → Sectioned bs 0 kinds_tag k → Completes bs (end_of k) joints_tag p → Completable bs p
unfolding encode
complete_joints {bs} {k} {p} b s c =
    let few : k.len < length_values = length_counted b s.head in
    record {
      within = c.within;
      rest = c.rest;
      before = record {
        kinds = part_of bs k;
        joints = c.payload;
        kinds_counted = omega (arith, part_length bs k s.fits);
        joints_counted = c.counted;
        written = c.written ∙ ap (λ (z : List ℕ). z ++ encode_section joints_tag c.payload) (sectioned_written b s);
        bytes = bytes_append (take p bs) c.rest (bytes_take p bs b) c.rest_bytes;
      };
    }

-- a whole form, with a byte after it
complete_form : {bs : List ℕ} {f : Form} {p : ℕ} → Bytes bs → Formed bs f → f.end ≡ p → p ≤ length bs → Completable bs p
complete_form {bs} {f} {p} b h e l =
    let counted = formed_counted b h in
    record {
      within = l;
      rest = [];
      before = record {
        kinds = kinds_of bs f;
        joints = joints_of bs f;
        kinds_counted = counted.0;
        joints_counted = counted.1;
        written = append-nil (take p bs) ∙ ap (λ (z : ℕ). take z bs) (sym e) ∙ formed_written b h;
        bytes = bytes_append (take p bs) [] (bytes_take p bs b) bytes_nil;
      };
    }

completable_first : {bs : List ℕ} {p : ℕ} {x : Result Form Broken} → Bytes bs → FirstSays bs x → x ≡ broken_at p → Completable bs p
completable_first {bs} {p} b (no_kinds {p = q} h) e =
    let same : q ≡ p = same_place e in
    complete_kinds b (section_completes bs 0 kinds_tag b (omega arith) (omega arith) (h ∙ ap broken_at same))
completable_first {bs} {p} b (no_joints {k = k} {p = q} s h) e =
    let same : q ≡ p = same_place e in
    complete_joints b s (section_completes bs (end_of k) joints_tag b (omega arith) s.fits (h ∙ ap broken_at same))
completable_first b (found h) e = let z : ◌≡◌ {A = ℕ} 0 1 = cc in absurd (omega arith)

completable_stored : {bs : List ℕ} {p : ℕ} {x : Result Form Broken} → Bytes bs → StoredSays bs x → x ≡ broken_at p → Completable bs p
completable_stored b (no_first h s) e = completable_first b s e
completable_stored {p = p} b (after {f = f} h l) e = let same : f.end ≡ p = same_place e in complete_form b h same (omega arith)
completable_stored b (all h k) e = let z : ◌≡◌ {A = ℕ} 0 1 = cc in absurd (omega arith)

-- the bytes before the place can be completed to a valid form
pub place_completable : (bs : List ℕ) (p : ℕ) → Bytes bs → stored_of bs ≡ broken_at p → Completable bs p
place_completable bs p b q = completable_stored b (stored_says bs) q

-- refusal 10's place is "first byte that fits no valid form, or file length"
pub place_is_right : (bs : List ℕ) (p : ℕ) → Bytes bs → stored_of bs ≡ broken_at p → Place bs p
place_is_right bs p b q =
    let c : Completable bs p = place_completable bs p b q in
    record { within = c.within; rest = c.rest; before = c.before; stuck = place_stuck bs p q }

-- and so for a form that stands first
pub first_place_is_right : (bs : List ℕ) (p : ℕ) → Bytes bs → first_of bs ≡ broken_at p → Place bs p
first_place_is_right bs p b q = place_is_right bs p b (stored_no_first bs q)
