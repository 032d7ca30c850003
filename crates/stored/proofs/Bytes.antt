-- Lists of bytes stay so when they are joined, cut or encoded. By induction on the lists.
-- Assumes nothing.
use Prim.Native.Nat.{ℕ, zero, suc, ◌*◌, ◌/◌, ◌%◌, ◌<◌}
use mathlib.Core.List.{List, [], ◌∷◌, ◌++◌}
use native.Mathlib.Omega.{arith}
use native.Mathlib.Nat.{mod-lt, div-lt_iff_lt-mul}
use lib.ListN.{length, get_or, take, replicate}
use Rattle.stored.specs.Stored.{encode_section, byte_values, length_values}
use Rattle.stored.specs.Valid.{Bytes}

pub bytes_nil : Bytes []
bytes_nil = record { each = λ i. omega arith }

cons_each : (b : ℕ) (bs : List ℕ) → b < byte_values → Bytes bs → (i : ℕ) → get_or (b ∷ bs) i 0 < byte_values
cons_each b bs h k zero = h
cons_each b bs h k (suc i) = k.each i

pub bytes_cons : {b : ℕ} {bs : List ℕ} → b < byte_values → Bytes bs → Bytes (b ∷ bs)
bytes_cons {b} {bs} h k = record { each = cons_each b bs h k }

pub bytes_tail : {b : ℕ} {bs : List ℕ} → Bytes (b ∷ bs) → Bytes bs
bytes_tail h = record { each = λ i. h.each (suc i) }

pub bytes_append : (xs ys : List ℕ) → Bytes xs → Bytes ys → Bytes (xs ++ ys)
bytes_append [] ys h k = k
bytes_append (x ∷ xs) ys h k = bytes_cons (h.each zero) (bytes_append xs ys (bytes_tail h) k)

pub bytes_take : (n : ℕ) (bs : List ℕ) → Bytes bs → Bytes (take n bs)
bytes_take zero bs h = bytes_nil
bytes_take (suc n) [] h = bytes_nil
bytes_take (suc n) (x ∷ xs) h = bytes_cons (h.each zero) (bytes_take n xs (bytes_tail h))

pub bytes_zeros : (n : ℕ) → Bytes (replicate n 0)
bytes_zeros zero = bytes_nil
bytes_zeros (suc n) = bytes_cons (omega arith) (bytes_zeros n)

pub bytes_section : (tag : ℕ) (payload : List ℕ) → tag < byte_values → length payload < length_values → Bytes payload → Bytes (encode_section tag payload)
unfolding encode_section
bytes_section tag payload t l h =
    let some : 0 < byte_values = omega arith in
    let small : length payload < byte_values * byte_values = omega arith in
    let low : length payload % byte_values < byte_values = mod-lt (length payload) some in
    let high : length payload / byte_values < byte_values = (div-lt_iff_lt-mul some).1 small in
    bytes_cons t (bytes_cons low (bytes_cons high h))
