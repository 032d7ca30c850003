-- What the stored form is, said with no way to read it: the valid forms, the place of refusal 10, and the answers that are allowed.
use Rattle.std.specs.Prelude.{ℕ, suc, ◌+◌, ◌<◌, ◌≤◌, ◌≡◌, List, ◌++◌, Result, Ok, Err, length, get_or, take}
use Rattle.stored.specs.Stored.{encode, broken_at, kinds_tag, joints_tag, low_place, high_place, head_length, length_of, byte_values, length_values}
use Rattle.stored.specs.declared.Form.{Form}
use Rattle.stored.specs.declared.Broken.{Broken}
use Rattle.stored.specs.declared.Unread.{Unread}
use Rattle.stored.specs.declared.Unread.TheVariants as unread

-- a list of bytes
pub record Bytes (bs : List ℕ) : Type 0 where
  pub each : (i : ℕ) → get_or bs i 0 < byte_values

-- a valid form: bytes that are the encoding of some kinds and joints that a two-byte length can count
pub record Valid (bs : List ℕ) : Type 0 where
  pub kinds : List ℕ
  pub joints : List ℕ
  pub kinds_counted : length kinds < length_values
  pub joints_counted : length joints < length_values
  pub written : bs ≡ encode kinds joints
  pub bytes : Bytes bs

-- "first byte that fits no valid form, or file length": the bytes before the place can be completed to a valid form, and with the byte at
-- it they can't, unless the file ended there
pub record Place (bs : List ℕ) (p : ℕ) : Type 0 where
  pub within : p ≤ length bs
  pub rest : List ℕ
  pub before : Valid (take p bs ++ rest)
  pub stuck : p < length bs → (t : List ℕ) → Valid (take (suc p) bs ++ t) → ⊥

-- where the payloads of an encoding stand, and its end
abbrev pub form_of : List ℕ → List ℕ → Form
form_of kinds joints =
    record {
      kinds = record { at = head_length; len = length kinds };
      joints = record { at = head_length + length kinds + head_length; len = length joints };
      end = head_length + length kinds + head_length + length joints;
    }

-- the answers that the paper allows: where the payloads stand, for a valid form; else refusal 10 at its place
pub data Allowed (bs : List ℕ) : Result Form Broken → Type 0 where
  whole : (v : Valid bs) → Allowed bs (Ok (form_of v.kinds v.joints))
  broken : {p : ℕ} → (Valid bs → ⊥) → Place bs p → Allowed bs (broken_at p)

-- the same for a form that stands first, whatever follows it
pub data AllowedFirst (bs : List ℕ) : Result Form Broken → Type 0 where
  whole_first : (ks js ys : List ℕ) → length ks < length_values → length js < length_values → bs ≡ encode ks js ++ ys → AllowedFirst bs (Ok (form_of ks js))
  broken_first : {p : ℕ} → ((ks js ys : List ℕ) → bs ≡ encode ks js ++ ys → ⊥) → Place bs p → AllowedFirst bs (broken_at p)

-- a length is read at a place: the tag stands there, and the two length bytes after it say n
pub record Headed (bs : List ℕ) (at tag n : ℕ) : Type 0 where
  pub fits : at + head_length ≤ length bs
  pub tagged : get_or bs at 0 ≡ tag
  pub counted : length_of (get_or bs (at + low_place) 0) (get_or bs (at + high_place) 0) ≡ n

-- "the first length above 256": either length, as soon as it is read
pub data TooLong (bs : List ℕ) (limit : ℕ) : Type 0 where
  kinds_long : {n : ℕ} → Headed bs 0 kinds_tag n → limit < n → TooLong bs limit
  joints_long : {k n : ℕ} → Headed bs 0 kinds_tag k → k ≤ limit → Headed bs (head_length + k) joints_tag n → limit < n → TooLong bs limit

-- "refuses 3 at 0 at the first length above 256 without reading on (only here 3 may come before 10)": the answers that are allowed to a
-- reader with a limit
pub data AllowedLimited (bs : List ℕ) (limit : ℕ) : Result Form Unread → Type 0 where
  long : TooLong bs limit → AllowedLimited bs limit (Err unread.Long)
  whole_within : (TooLong bs limit → ⊥) → (v : Valid bs) → AllowedLimited bs limit (Ok (form_of v.kinds v.joints))
  broken_within : {p : ℕ} → (TooLong bs limit → ⊥) → (Valid bs → ⊥) → Place bs p → AllowedLimited bs limit (Err (unread.Broken p))
