-- Sections as lists: a section of an encoding is found where it stands, a section that is found is the encoding of its payload, and one
-- that is not found can be completed. By the cases of `section_of`.
-- Assumes nothing.
use Rattle.std.proofs.Common.{Result, Ok}
use mathlib.Core.Path.{◌≡◌, refl, sym, ap, subst, ◌∙◌}
use Prim.Native.Nat.{ℕ, suc, ◌+◌, ◌-◌, ◌*◌, ◌/◌, ◌%◌, ◌≤◌, ◌<◌}
use mathlib.Core.List.{List, [], ◌∷◌, ◌++◌, append_assoc}
use native.Mathlib.Omega.{arith}
use native.Mathlib.Nat.{mod-add-div, add-mul-mod_self_left, add-mul-div_left, mod-eq_of_lt, div-eq_of_lt}
use lib.ListN.{length, get_or, take, drop, replicate, length-append, length-drop, length-replicate, take-append-drop, drop_of_length-le, get_or-append}
use lib.Seq.{get_or-take, get_or-append_seam, get_or-append-add, drop-cons, take_all, take-add, length-take-le}
use lib.Dec.{ltb}
use mathlib.Core.Bool.{Bool, true, false}
use borrow.Author.Tests.{le-leb, ltb-true, ltb-false}
use Rattle.base.specs.Base.{pick}
use Rattle.stored.specs.Stored.{broken_at, head_of, section_of, length_of, head_length, end_of, encode_section, byte_values, length_values, part_of}
use Rattle.stored.specs.Valid.{Bytes, Headed}
use Rattle.stored.specs.declared.Span.{Span}
use Rattle.stored.specs.declared.Broken.{Broken}
use Rattle.stored.proofs.Bytes.{bytes_nil, bytes_cons, bytes_zeros}
use Rattle.stored.proofs.Laws.{same_place}
use Rattle.stored.proofs.Cases.{HeadSays, head_ended, head_other, head_short, head_full, head_says}
use Rattle.stored.proofs.Cases.{Sectioned, SectionSays, ended, other, short, cut, full, section_says}

-- what a head and a section are found by

head_found_of : {bs : List ℕ} {at tag n : ℕ} {x : Result ℕ Broken} → HeadSays bs at tag x → Headed bs at tag n → x ≡ Ok n
head_found_of (head_ended h) g = absurd (omega (arith, g.fits))
head_found_of (head_other h e) g = absurd (e g.tagged)
head_found_of (head_short h e l) g = absurd (omega (arith, g.fits))
head_found_of (head_full h) g = ap Ok (sym h.counted ∙ g.counted)

pub head_found : {bs : List ℕ} {at tag n : ℕ} → Headed bs at tag n → head_of bs at tag ≡ Ok n
head_found {bs} {at} {tag} g = head_found_of (head_says bs at tag) g

section_found_of : {bs : List ℕ} {at tag : ℕ} {s : Span} {x : Result Span Broken} → SectionSays bs at tag x → Sectioned bs at tag s → x ≡ Ok s
section_found_of (ended h) g = absurd (omega (arith, g.head.fits))
section_found_of (other h e) g = absurd (e g.head.tagged)
section_found_of (short h e l) g = absurd (omega (arith, g.head.fits))
section_found_of (cut h l) g = absurd (omega (arith, g.fits, g.start, h.counted, g.head.counted))
section_found_of {s = s} (full {s = r} h) g =
    let starts : r.at ≡ s.at = h.start ∙ sym g.start in
    let counts : r.len ≡ s.len = sym h.head.counted ∙ g.head.counted in
    ap Ok (ap (λ (z : ℕ). record { at = z; len = r.len }) starts ∙ ap (λ (z : ℕ). record { at = s.at; len = z }) counts)

pub section_found : {bs : List ℕ} {at tag : ℕ} {s : Span} → Sectioned bs at tag s → section_of bs at tag ≡ Ok s
section_found {bs} {at} {tag} g = section_found_of (section_says bs at tag) g

section_other_of : {bs : List ℕ} {at tag : ℕ} {x : Result Span Broken} → SectionSays bs at tag x → at < length bs → (get_or bs at 0 ≡ tag → ⊥) → x ≡ broken_at at
section_other_of (ended h) l e = absurd (omega arith)
section_other_of (other h q) l e = refl
section_other_of (short h q k) l e = absurd (e q)
section_other_of (cut h k) l e = absurd (e h.tagged)
section_other_of (full h) l e = absurd (e h.head.tagged)

-- another byte where the tag should be
pub section_other : (bs : List ℕ) (at tag : ℕ) → at < length bs → (get_or bs at 0 ≡ tag → ⊥) → section_of bs at tag ≡ broken_at at
section_other bs at tag l e = section_other_of (section_says bs at tag) l e

-- a section that is broken before the end of the bytes has another tag
pub record Other (bs : List ℕ) (at tag p : ℕ) : Type 0 where
  pub here : at ≡ p
  pub differs : get_or bs at 0 ≡ tag → ⊥

section_inside_of : {bs : List ℕ} {at tag p : ℕ} {x : Result Span Broken} → SectionSays bs at tag x → x ≡ broken_at p → p < length bs → Other bs at tag p
section_inside_of {bs} {p = p} (ended h) q l = let same : length bs ≡ p = same_place q in absurd (omega arith)
section_inside_of {bs} {at = at} {p = p} (other h e) q l = record { here = same_place q; differs = e }
section_inside_of {bs} {p = p} (short h e k) q l = let same : length bs ≡ p = same_place q in absurd (omega arith)
section_inside_of {bs} {p = p} (cut h k) q l = let same : length bs ≡ p = same_place q in absurd (omega arith)
section_inside_of (full h) q l = let z : ◌≡◌ {A = ℕ} 0 1 = cc in absurd (omega arith)

pub section_inside : (bs : List ℕ) (at tag : ℕ) {p : ℕ} → section_of bs at tag ≡ broken_at p → p < length bs → Other bs at tag p
section_inside bs at tag q l = section_inside_of (section_says bs at tag) q l

-- lists that begin with the same k bytes

pub record Begins (k : ℕ) (bs xs : List ℕ) : Type 0 where
  pub far : k ≤ length xs
  pub same : (i : ℕ) → i < k → get_or xs i 0 ≡ get_or bs i 0

pub begins_take : (bs t : List ℕ) (k : ℕ) → k ≤ length bs → Begins k bs (take k bs ++ t)
begins_take bs t k h =
    let long : length (take k bs) ≡ k = length-take-le k bs h in
    record {
      far = simp length-append (omega arith);
      same = λ i l. let in_take : i < length (take k bs) = omega arith in get_or-append (take k bs) t 0 i in_take ∙ get_or-take k bs i 0 l;
    }

pub begins_append : (bs t : List ℕ) → Begins (length bs) bs (bs ++ t)
begins_append bs t = record { far = simp length-append (omega arith); same = λ i l. get_or-append bs t 0 i l }

pub headed_again : {bs xs : List ℕ} {at tag n k : ℕ} → Begins k bs xs → at + head_length ≤ k → Headed bs at tag n → Headed xs at tag n
headed_again {bs} {xs} {at} {tag} {n} {k} b l h =
    let low : get_or xs (at + 1) 0 ≡ get_or bs (at + 1) 0 = b.same (at + 1) (omega arith) in
    let high : get_or xs (at + 2) 0 ≡ get_or bs (at + 2) 0 = b.same (at + 2) (omega arith) in
    record {
      fits = omega (arith, b.far);
      tagged = b.same at (omega arith) ∙ h.tagged;
      counted = omega (arith, h.counted);
    }

pub sectioned_again : {bs xs : List ℕ} {at tag k : ℕ} {s : Span} → Begins k bs xs → end_of s ≤ k → Sectioned bs at tag s → Sectioned xs at tag s
sectioned_again b l h =
    record {
      head = headed_again b (omega (arith, h.start)) h.head;
      start = h.start;
      fits = omega (arith, b.far);
    }

-- the section of an encoding

pub length_encode_section : (tag : ℕ) (payload : List ℕ) → length (encode_section tag payload) ≡ head_length + length payload
unfolding encode_section
length_encode_section tag payload = omega arith

encoded_here : (xs : List ℕ) (tag : ℕ) (payload ys : List ℕ) → Sectioned (xs ++ (encode_section tag payload ++ ys)) (length xs) tag (record { at = length xs + head_length; len = length payload })
unfolding encode_section
encoded_here xs tag payload ys =
    let all : List ℕ = encode_section tag payload ++ ys in
    let low : get_or (xs ++ all) (length xs + 1) 0 ≡ length payload % byte_values = get_or-append-add xs all 1 0 in
    let high : get_or (xs ++ all) (length xs + 2) 0 ≡ length payload / byte_values = get_or-append-add xs all 2 0 in
    let count : length payload % byte_values + byte_values * (length payload / byte_values) ≡ length payload = mod-add-div (length payload) byte_values in
    let long : length (xs ++ all) ≡ length xs + (head_length + length payload + length ys) = length-append xs all ∙ simp length-append (omega arith) in
    record {
      head = record { fits = omega arith; tagged = get_or-append_seam xs tag _ 0; counted = omega arith };
      start = refl;
      fits = omega arith;
    }

pub encoded_sectioned : (xs : List ℕ) (tag : ℕ) (payload ys : List ℕ) (at : ℕ) → length xs ≡ at → Sectioned (xs ++ (encode_section tag payload ++ ys)) at tag (record { at = at + head_length; len = length payload })
encoded_sectioned xs tag payload ys at e =
    subst (λ (a : ℕ). Sectioned (xs ++ (encode_section tag payload ++ ys)) a tag (record { at = a + head_length; len = length payload })) e
    (encoded_here xs tag payload ys)

-- a tag, two length bytes and as many bytes as they say are an encoded section
pub section_written : (tag low high : ℕ) (payload : List ℕ) → low < byte_values → length payload ≡ length_of low high → tag ∷ low ∷ high ∷ payload ≡ encode_section tag payload
unfolding encode_section
section_written tag low high payload l e =
    let lows : length payload % byte_values ≡ low = ap (λ (z : ℕ). z % byte_values) e ∙ add-mul-mod_self_left low byte_values high ∙ mod-eq_of_lt l in
    let none : low / byte_values ≡ 0 = div-eq_of_lt l in
    let split : length_of low high / byte_values ≡ low / byte_values + high = add-mul-div_left low high (omega arith) in
    let highs : length payload / byte_values ≡ high = ap (λ (z : ℕ). z / byte_values) e ∙ split ∙ omega arith in
    ap (λ (z : ℕ). tag ∷ z ∷ high ∷ payload) (sym lows) ∙ ap (λ (z : ℕ). tag ∷ length payload % byte_values ∷ z ∷ payload) (sym highs)

-- the bytes from a place on, head first
drop_one : (bs : List ℕ) (at : ℕ) → at < length bs → drop at bs ≡ get_or bs at 0 ∷ drop (at + 1) bs
drop_one bs at l = let step : suc at ≡ at + 1 = omega arith in drop-cons bs at 0 l ∙ ap (λ (z : ℕ). get_or bs at 0 ∷ drop z bs) step

drop_two : (bs : List ℕ) (at : ℕ) → at + 1 < length bs → drop at bs ≡ get_or bs at 0 ∷ get_or bs (at + 1) 0 ∷ drop (at + 2) bs
drop_two bs at l =
    let step : at + 1 + 1 ≡ at + 2 = omega arith in
    let first : at < length bs = omega arith in
    drop_one bs at first ∙ ap (λ (z : List ℕ). get_or bs at 0 ∷ z) (drop_one bs (at + 1) l ∙ ap (λ (z : ℕ). get_or bs (at + 1) 0 ∷ drop z bs) step)

drop_head : (bs : List ℕ) (at : ℕ) → at + head_length ≤ length bs → drop at bs ≡ get_or bs at 0 ∷ get_or bs (at + 1) 0 ∷ get_or bs (at + 2) 0 ∷ drop (at + head_length) bs
drop_head bs at l =
    let step : at + 2 + 1 ≡ at + head_length = omega arith in
    let second : at + 1 < length bs = omega arith in
    let third : at + 2 < length bs = omega arith in
    drop_two bs at second ∙ ap (λ (z : List ℕ). get_or bs at 0 ∷ get_or bs (at + 1) 0 ∷ z) (drop_one bs (at + 2) third ∙ ap (λ (z : ℕ). get_or bs (at + 2) 0 ∷ drop z bs) step)

pub part_fits : (bs : List ℕ) (s : Span) → end_of s ≤ length bs → part_of bs s ≡ take s.len (drop s.at bs)
unfolding part_of pick
part_fits bs s h =
    let start : s.at ≤ length bs = omega arith in
    let rest : s.len ≤ length bs - s.at = omega arith in
    simp (le-leb s.at (length bs) start, le-leb s.len (length bs - s.at) rest)

pub part_length : (bs : List ℕ) (s : Span) → end_of s ≤ length bs → length (part_of bs s) ≡ s.len
part_length bs s h =
    let long : s.len ≤ length (drop s.at bs) = simp length-drop (omega arith) in
    ap length (part_fits bs s h) ∙ length-take-le s.len (drop s.at bs) long

-- the bytes before the end of a section that is found are those before it, and the encoding of its payload
pub sectioned_written : {bs : List ℕ} {at tag : ℕ} {s : Span} → Bytes bs → Sectioned bs at tag s → take (end_of s) bs ≡ take at bs ++ encode_section tag (part_of bs s)
sectioned_written {bs} {at} {tag} {s} b h =
    let n : ℕ = s.len in
    let whole : end_of s ≡ at + suc (suc (suc n)) = omega (arith, h.start) in
    let payload : part_of bs s ≡ take n (drop (at + head_length) bs) = part_fits bs s h.fits ∙ ap (λ (z : ℕ). take n (drop z bs)) h.start in
    let from : take (suc (suc (suc n))) (drop at bs) ≡ get_or bs at 0 ∷ get_or bs (at + 1) 0 ∷ get_or bs (at + 2) 0 ∷ take n (drop (at + head_length) bs) = ap (take (suc (suc (suc n)))) (drop_head bs at h.head.fits) in
    let tagged : take (suc (suc (suc n))) (drop at bs) ≡ tag ∷ get_or bs (at + 1) 0 ∷ get_or bs (at + 2) 0 ∷ part_of bs s = from ∙ cc (h.head.tagged, payload) in
    let counted : length (part_of bs s) ≡ length_of (get_or bs (at + 1) 0) (get_or bs (at + 2) 0) = part_length bs s h.fits ∙ sym h.head.counted in
    ap (λ (z : ℕ). take z bs) whole ∙ take-add at (suc (suc (suc n))) bs
    ∙ ap (λ (z : List ℕ). take at bs ++ z) (tagged ∙ section_written tag (get_or bs (at + 1) 0) (get_or bs (at + 2) 0) (part_of bs s) (b.each (at + 1)) counted)

-- two bytes count below 65,536
pub length_counted : {bs : List ℕ} {at tag n : ℕ} → Bytes bs → Headed bs at tag n → n < length_values
length_counted {at = at} b h = omega (arith, b.each (at + 1), b.each (at + 2), h.counted)

-- the bytes before a place p can be completed to those before `at` and an encoded section
pub record Completes (bs : List ℕ) (at tag p : ℕ) : Type 0 where
  pub from : at ≤ p
  pub within : p ≤ length bs
  pub rest : List ℕ
  pub rest_bytes : Bytes rest
  pub payload : List ℕ
  pub counted : length payload < length_values
  pub written : take p bs ++ rest ≡ take at bs ++ encode_section tag payload

-- a whole section follows: nothing of it was there
completes_here : (bs : List ℕ) (at tag p : ℕ) → tag < byte_values → at ≤ length bs → at ≡ p → Completes bs at tag p
completes_here bs at tag p t h e =
    let none : length {A = ℕ} [] ≡ length_of 0 0 = refl in
    let zero_byte : 0 < byte_values = omega arith in
    record {
      from = omega arith;
      within = omega arith;
      rest = tag ∷ 0 ∷ 0 ∷ [];
      rest_bytes = bytes_cons t (bytes_cons zero_byte (bytes_cons zero_byte bytes_nil));
      payload = [];
      counted = omega arith;
      written = ap (λ (z : ℕ). take z bs ++ tag ∷ 0 ∷ 0 ∷ []) (sym e) ∙ ap (λ (z : List ℕ). take at bs ++ z) (section_written tag 0 0 [] zero_byte none);
    }

-- the bytes end within a section of which something was there
completes_more : (bs : List ℕ) (at tag low high p : ℕ) (rest payload : List ℕ) → at ≤ length bs → length bs ≡ p → low < byte_values → high < byte_values → Bytes rest → length payload ≡ length_of low high → drop at bs ++ rest ≡ tag ∷ low ∷ high ∷ payload → Completes bs at tag p
completes_more bs at tag low high p rest payload h e l k b n w =
    let all : take p bs ≡ take at bs ++ drop at bs = ap (λ (z : ℕ). take z bs) (sym e) ∙ take_all (length bs) bs (omega arith) ∙ sym (take-append-drop at bs) in
    record {
      from = omega arith;
      within = omega arith;
      rest = rest;
      rest_bytes = b;
      payload = payload;
      counted = omega arith;
      written = ap (λ (z : List ℕ). z ++ rest) all ∙ append_assoc (take at bs) (drop at bs) rest
          ∙ ap (λ (z : List ℕ). take at bs ++ z) (w ∙ section_written tag low high payload l n);
    }

-- the bytes end within a section's head
completes_short : (bs : List ℕ) (at tag p : ℕ) → Bytes bs → tag < byte_values → at < length bs → get_or bs at 0 ≡ tag → length bs < at + head_length → length bs ≡ p → Completes bs at tag p
completes_short bs at tag p b t l e k q = go (ltb (at + 1) (length bs)) refl
  where
    low : ℕ
    low = get_or bs (at + 1) 0

    go : (z : Bool) → ltb (at + 1) (length bs) ≡ z → Completes bs at tag p
    go true r =
        let second : at + 1 < length bs = ltb-true (at + 1) (length bs) r in
        let last : length bs ≤ at + 2 = omega arith in
        let done : drop (at + 2) bs ≡ [] = drop_of_length-le bs last in
        let stands : drop at bs ≡ tag ∷ low ∷ [] = drop_two bs at second ∙ cc (e, done) in
        let small : low < byte_values = b.each (at + 1) in
        completes_more bs at tag low 0 p (0 ∷ replicate low 0) (replicate low 0) (omega arith) q small (omega arith) (bytes_cons (omega arith) (bytes_zeros low))
        (length-replicate low 0 ∙ omega arith)
        (ap (λ (z : List ℕ). z ++ 0 ∷ replicate low 0) stands)
    go false r =
        let only : length bs ≤ at + 1 = ltb-false (at + 1) (length bs) r in
        let done : drop (at + 1) bs ≡ [] = drop_of_length-le bs only in
        let stands : drop at bs ≡ tag ∷ [] = drop_one bs at l ∙ cc (e, done) in
        let zero_byte : 0 < byte_values = omega arith in
        completes_more bs at tag 0 0 p (0 ∷ 0 ∷ []) [] (omega arith) q zero_byte zero_byte (bytes_cons zero_byte (bytes_cons zero_byte bytes_nil)) refl
        (ap (λ (z : List ℕ). z ++ 0 ∷ 0 ∷ []) stands)

-- the bytes end within a section's payload
completes_cut : (bs : List ℕ) (at tag n p : ℕ) → Bytes bs → Headed bs at tag n → length bs < at + head_length + n → length bs ≡ p → Completes bs at tag p
completes_cut bs at tag n p b h k q =
    let low : ℕ = get_or bs (at + 1) 0 in
    let high : ℕ = get_or bs (at + 2) 0 in
    let there : List ℕ = drop (at + head_length) bs in
    let rest : List ℕ = replicate (n - length there) 0 in
    let long : length there ≡ length bs - (at + head_length) = length-drop (at + head_length) bs in
    let filled : length (there ++ rest) ≡ length_of low high = length-append there rest ∙ ap (λ (z : ℕ). length there + z) (length-replicate (n - length there) 0) ∙ omega (arith, h.fits, h.counted) in
    let stands : drop at bs ≡ tag ∷ low ∷ high ∷ there = drop_head bs at h.fits ∙ ap (λ (z : ℕ). z ∷ low ∷ high ∷ there) h.tagged in
    completes_more bs at tag low high p rest (there ++ rest) (omega (arith, h.fits)) q (b.each (at + 1)) (b.each (at + 2)) (bytes_zeros (n - length there)) filled
    (ap (λ (z : List ℕ). z ++ rest) stands)

section_completes_of : {bs : List ℕ} {at tag p : ℕ} {x : Result Span Broken} → Bytes bs → tag < byte_values → at ≤ length bs → SectionSays bs at tag x → x ≡ broken_at p → Completes bs at tag p
section_completes_of {bs} {at} {tag} {p} b t l (ended h) q = let same : length bs ≡ p = same_place q in completes_here bs at tag p t l (omega arith)
section_completes_of {bs} {at} {tag} {p} b t l (other h e) q = let same : at ≡ p = same_place q in completes_here bs at tag p t l same
section_completes_of {bs} {at} {tag} {p} b t l (short h e k) q = let same : length bs ≡ p = same_place q in completes_short bs at tag p b t h e k same
section_completes_of {bs} {at} {tag} {p} b t l (cut {n = n} h k) q = let same : length bs ≡ p = same_place q in completes_cut bs at tag n p b h k same
section_completes_of b t l (full h) q = let z : ◌≡◌ {A = ℕ} 0 1 = cc in absurd (omega arith)

pub section_completes : (bs : List ℕ) (at tag : ℕ) {p : ℕ} → Bytes bs → tag < byte_values → at ≤ length bs → section_of bs at tag ≡ broken_at p → Completes bs at tag p
section_completes bs at tag b t l q = section_completes_of b t l (section_says bs at tag) q
