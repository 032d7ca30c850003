-- Worked bytes, by computation: forms that are read, and refusal 10 with its place.
use Rattle.std.specs.Prelude.{ℕ, ◌≡◌, refl, List, [], ◌∷◌, Result, Err}
use Rattle.base.specs.Base.{pick, whether}
use Rattle.stored.specs.Stored.{encode, encode_section, on_head, on_section, on_stored, head_of, section_of, first_of, stored_of, long_of, limited_of, part_of, kinds_of, joints_of}
use Rattle.stored.specs.declared.Form.{Form}
use Rattle.stored.specs.declared.Unread.{Unread}
use Rattle.stored.specs.declared.Unread.TheVariants as unread

-- what bytes hold: the kinds and the joints, or the place of refusal 10
pub data Held : Type 0 where
  holds : List ℕ → List ℕ → Held
  broken : ℕ → Held

-- with all that it rests on opened
unfoldable pub held : List ℕ → Held
unfolding pick whether on_head on_section on_stored head_of section_of first_of stored_of part_of kinds_of joints_of
held bs = on_stored (stored_of bs) (λ f. holds (kinds_of bs f) (joints_of bs f)) (λ p. broken p)

unfoldable pub first_held : List ℕ → Held
unfolding pick whether on_head on_section on_stored head_of section_of first_of part_of kinds_of joints_of
first_held bs = on_stored (first_of bs) (λ f. holds (kinds_of bs f) (joints_of bs f)) (λ p. broken p)

-- `!1` is 1 2 0 25 2 2 2 0 1 0
bang_one : held (1 ∷ 2 ∷ 0 ∷ 25 ∷ 2 ∷ 2 ∷ 2 ∷ 0 ∷ 1 ∷ 0 ∷ []) ≡ holds (25 ∷ 2 ∷ []) (1 ∷ 0 ∷ [])
unfolding held
bang_one = refl

bang_one_written : encode (25 ∷ 2 ∷ []) (1 ∷ 0 ∷ []) ≡ 1 ∷ 2 ∷ 0 ∷ 25 ∷ 2 ∷ 2 ∷ 2 ∷ 0 ∷ 1 ∷ 0 ∷ []
unfolding encode encode_section
bang_one_written = refl

-- lengths may differ: that is refusal 3, and not 10
unequal_lengths : held (1 ∷ 1 ∷ 0 ∷ 5 ∷ 2 ∷ 0 ∷ 0 ∷ []) ≡ holds (5 ∷ []) []
unfolding held
unequal_lengths = refl

-- an empty list of tokens
no_tokens : held (1 ∷ 0 ∷ 0 ∷ 2 ∷ 0 ∷ 0 ∷ []) ≡ holds [] []
unfolding held
no_tokens = refl

-- an empty file, a file that ends within the head, within the kinds, before the joints, within the joints
empty_file : held [] ≡ broken 0
unfolding held
empty_file = refl

ends_in_head : held (1 ∷ 2 ∷ []) ≡ broken 2
unfolding held
ends_in_head = refl

ends_in_kinds : held (1 ∷ 2 ∷ 0 ∷ 25 ∷ []) ≡ broken 4
unfolding held
ends_in_kinds = refl

ends_before_joints : held (1 ∷ 1 ∷ 0 ∷ 25 ∷ []) ≡ broken 4
unfolding held
ends_before_joints = refl

ends_in_joints : held (1 ∷ 1 ∷ 0 ∷ 25 ∷ 2 ∷ 1 ∷ 0 ∷ []) ≡ broken 7
unfolding held
ends_in_joints = refl

-- joints first, kinds twice, a byte after
joints_first : held (2 ∷ 0 ∷ 0 ∷ 1 ∷ 0 ∷ 0 ∷ []) ≡ broken 0
unfolding held
joints_first = refl

kinds_twice : held (1 ∷ 1 ∷ 0 ∷ 25 ∷ 1 ∷ 1 ∷ 0 ∷ 25 ∷ []) ≡ broken 4
unfolding held
kinds_twice = refl

byte_after : held (1 ∷ 0 ∷ 0 ∷ 2 ∷ 0 ∷ 0 ∷ 1 ∷ []) ≡ broken 6
unfolding held
byte_after = refl

-- the same bytes, for a reader of forms one after the other
another_after : first_held (1 ∷ 0 ∷ 0 ∷ 2 ∷ 0 ∷ 0 ∷ 1 ∷ []) ≡ holds [] []
unfolding first_held
another_after = refl

-- low byte first: length bytes 0 1 ask for 256 payload bytes, and the file ends
low_byte_first : held (1 ∷ 0 ∷ 1 ∷ 25 ∷ []) ≡ broken 4
unfolding held
low_byte_first = refl

-- for the program: a length of 257 is refusal 3 at once, be it of the kinds or of the joints; a wrong tag before it is 10
unfoldable pub program_holds : List ℕ → Result Form Unread
unfolding whether on_head on_section on_stored head_of section_of first_of stored_of long_of limited_of
program_holds bs = limited_of bs 256

long_kinds : program_holds (1 ∷ 1 ∷ 1 ∷ []) ≡ Err unread.Long
unfolding program_holds
long_kinds = refl

long_joints : program_holds (1 ∷ 0 ∷ 0 ∷ 2 ∷ 1 ∷ 1 ∷ []) ≡ Err unread.Long
unfolding program_holds
long_joints = refl

wrong_tag_before_length : program_holds (1 ∷ 0 ∷ 0 ∷ 1 ∷ 1 ∷ 1 ∷ []) ≡ Err (unread.Broken 3)
unfolding program_holds
wrong_tag_before_length = refl

length_of_256 : program_holds (1 ∷ 0 ∷ 1 ∷ []) ≡ Err (unread.Broken 3)
unfolding program_holds
length_of_256 = refl
