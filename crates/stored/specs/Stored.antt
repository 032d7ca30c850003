-- The stored form: "Tag byte, two-byte length, low byte first, payload: tag 1 kinds, then tag 2 joints, each once, nothing after."
-- `encode` writes it, and the rules below it say what bytes hold. All tags and shapes stand here.
use Rattle.std.specs.Prelude.{ℕ, ◌+◌, ◌-◌, ◌*◌, ◌/◌, ◌%◌, ◌≡◌, List, [], ◌∷◌, ◌++◌, Bool, true, false, Result, Ok, Err, length, get_or, take, drop, ltb, leb, eqb}
use Rattle.base.specs.Base.{pick, whether}
use Rattle.stored.specs.declared.Span.{Span}
use Rattle.stored.specs.declared.Form.{Form}
use Rattle.stored.specs.declared.Broken.{Broken}
use Rattle.stored.specs.declared.Unread.{Unread}
use Rattle.stored.specs.declared.Unread.TheVariants as unread

-- "tag 1 kinds, then tag 2 joints"
abbrev pub kinds_tag : ℕ
kinds_tag = 1

abbrev pub joints_tag : ℕ
joints_tag = 2

-- the head of a section: the tag, the low byte and the high byte of the length. The payload starts after it
abbrev pub low_place : ℕ
low_place = 1

abbrev pub high_place : ℕ
high_place = 2

abbrev pub head_length : ℕ
head_length = 3

-- how many values a byte has, and two bytes
abbrev pub byte_values : ℕ
byte_values = 256

abbrev pub length_values : ℕ
length_values = 65536

-- "Tag byte, two-byte length, low byte first, payload"
unfoldable pub encode_section : ℕ → List ℕ → List ℕ
encode_section tag payload = tag ∷ length payload % byte_values ∷ length payload / byte_values ∷ payload

-- "tag 1 kinds, then tag 2 joints, each once, nothing after"
unfoldable pub encode : List ℕ → List ℕ → List ℕ
encode kinds joints = encode_section kinds_tag kinds ++ encode_section joints_tag joints

-- "two-byte length, low byte first"
abbrev pub length_of : ℕ → ℕ → ℕ
length_of low high = low + byte_values * high

-- the place after a span
abbrev pub end_of : Span → ℕ
end_of s = s.at + s.len

-- refusal 10 at a place
abbrev pub broken_at : {T : Type 0} → ℕ → Result T Broken
broken_at p = Err (record { 0 = p })

-- what follows each answer
unfoldable pub on_head : {A : Type 0} → Result ℕ Broken → (ℕ → A) → (ℕ → A) → A
on_head (Ok n) f g = f n
on_head (Err b) f g = g b.0

unfoldable pub on_section : {A : Type 0} → Result Span Broken → (Span → A) → (ℕ → A) → A
on_section (Ok s) f g = f s
on_section (Err b) f g = g b.0

unfoldable pub on_stored : {A : Type 0} → Result Form Broken → (Form → A) → (ℕ → A) → A
on_stored (Ok f) k g = k f
on_stored (Err b) k g = g b.0

-- The tag and the length of the section that starts at a place. A byte that is no such tag fits no valid form; any length bytes do.
-- Otherwise the file ends too early: "or file length"
unfoldable pub head_of : List ℕ → ℕ → ℕ → Result ℕ Broken
head_of bs at tag =
    whether (leb (length bs) at) (λ _. broken_at (length bs)) λ _.
    whether (eqb (get_or bs at 0) tag)
    (λ _. whether (ltb (length bs - at) head_length) (λ _. broken_at (length bs))
    (λ _. Ok (length_of (get_or bs (at + low_place) 0) (get_or bs (at + high_place) 0))))
    (λ _. broken_at at)

-- the section that starts at a place, with all of its payload. Payload bytes are free
unfoldable pub section_of : List ℕ → ℕ → ℕ → Result Span Broken
section_of bs at tag =
    on_head (head_of bs at tag)
    (λ n. whether (ltb (length bs - at - head_length) n) (λ _. broken_at (length bs)) (λ _. Ok (record { at = at + head_length; len = n })))
    (λ p. broken_at p)

-- the form that stands first: "tag 1 kinds, then tag 2 joints, each once". Other bytes may follow from its end on
unfoldable pub first_of : List ℕ → Result Form Broken
first_of bs =
    on_section (section_of bs 0 kinds_tag)
    (λ kinds. on_section (section_of bs (end_of kinds) joints_tag)
    (λ joints. Ok (record { kinds = kinds; joints = joints; end = end_of joints }))
    (λ p. broken_at p))
    (λ p. broken_at p)

-- the one form that the bytes are: "nothing after". A byte after it fits no valid form
unfoldable pub stored_of : List ℕ → Result Form Broken
stored_of bs =
    on_stored (first_of bs)
    (λ f. whether (eqb f.end (length bs)) (λ _. Ok f) (λ _. broken_at f.end))
    (λ p. broken_at p)

-- "at the first length above 256": either length, as soon as it is read; a wrong tag before it is 10
unfoldable pub long_of : List ℕ → ℕ → Bool
long_of bs limit =
    on_head (head_of bs 0 kinds_tag)
    (λ kn. whether (ltb limit kn) (λ _. true) λ _. on_head (head_of bs (head_length + kn) joints_tag) (λ jn. ltb limit jn) (λ _. false))
    (λ _. false)

-- "refuses 3 at 0 at the first length above 256 without reading on (only here 3 may come before 10)"
unfoldable pub limited_of : List ℕ → ℕ → Result Form Unread
limited_of bs limit =
    whether (long_of bs limit) (λ _. Err unread.Long) λ _.
    on_stored (stored_of bs) (λ f. Ok f) (λ p. Err (unread.Broken p))

-- the bytes of a span, or none where it runs past the end
unfoldable pub part_of : List ℕ → Span → List ℕ
part_of bs s = pick (leb s.at (length bs)) (pick (leb s.len (length bs - s.at)) (take s.len (drop s.at bs)) []) []

-- the payloads of a form, as parts of its bytes
unfoldable pub kinds_of : List ℕ → Form → List ℕ
kinds_of bs f = part_of bs f.kinds

unfoldable pub joints_of : List ℕ → Form → List ℕ
joints_of bs f = part_of bs f.joints

-- decoding the bytes gives these kinds and joints
pub record Decodes (bs kinds joints : List ℕ) : Type 0 where
  pub form : Form
  pub accepted : stored_of bs ≡ Ok form
  pub its_kinds : kinds_of bs form ≡ kinds
  pub its_joints : joints_of bs form ≡ joints
