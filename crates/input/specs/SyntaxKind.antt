-- The numbers of document 01, each under one name.
use Rattle.std.specs.Prelude.{ℕ}

-- "Past the end the kind is 0 (EOF)."
abbrev pub EOF : ℕ
EOF = 0

-- "Raw kinds: 1 IDENT, 2 INT_NUMBER, 3 FLOAT_NUMBER, 4 STRING, 5 true, 6 false, 7 as, 8 mut, 9 await, 10 to 29 in order `(` `)` `[` `]` `,` `:` `.` `&` `|` `+` `-` `*` `/` `%` `^` `!` `=` `<` `>` `?`."
abbrev pub IDENT : ℕ
IDENT = 1

abbrev pub INT_NUMBER : ℕ
INT_NUMBER = 2

abbrev pub FLOAT_NUMBER : ℕ
FLOAT_NUMBER = 3

abbrev pub STRING : ℕ
STRING = 4

abbrev pub TRUE_KW : ℕ
TRUE_KW = 5

abbrev pub FALSE_KW : ℕ
FALSE_KW = 6

abbrev pub AS_KW : ℕ
AS_KW = 7

abbrev pub MUT_KW : ℕ
MUT_KW = 8

abbrev pub AWAIT_KW : ℕ
AWAIT_KW = 9

abbrev pub L_PAREN : ℕ
L_PAREN = 10

abbrev pub R_PAREN : ℕ
R_PAREN = 11

abbrev pub L_BRACK : ℕ
L_BRACK = 12

abbrev pub R_BRACK : ℕ
R_BRACK = 13

abbrev pub COMMA : ℕ
COMMA = 14

abbrev pub COLON : ℕ
COLON = 15

abbrev pub DOT : ℕ
DOT = 16

abbrev pub AMP : ℕ
AMP = 17

abbrev pub PIPE : ℕ
PIPE = 18

abbrev pub PLUS : ℕ
PLUS = 19

abbrev pub MINUS : ℕ
MINUS = 20

abbrev pub STAR : ℕ
STAR = 21

abbrev pub SLASH : ℕ
SLASH = 22

abbrev pub PERCENT : ℕ
PERCENT = 23

abbrev pub CARET : ℕ
CARET = 24

abbrev pub BANG : ℕ
BANG = 25

abbrev pub EQ : ℕ
EQ = 26

abbrev pub L_ANGLE : ℕ
L_ANGLE = 27

abbrev pub R_ANGLE : ℕ
R_ANGLE = 28

abbrev pub QUESTION : ℕ
QUESTION = 29

-- "40 to 63 in order `-=` `->` `::` `!=` `..` `*=` `/=` `&&` `&=` `%=` `^=` `+=` `<<` `<=` `==` `=>` `>=` `>>` `|=` `||` `...` `..=` `<<=` `>>=`."
abbrev pub MINUSEQ : ℕ
MINUSEQ = 40

abbrev pub THIN_ARROW : ℕ
THIN_ARROW = 41

abbrev pub COLON2 : ℕ
COLON2 = 42

abbrev pub NEQ : ℕ
NEQ = 43

abbrev pub DOT2 : ℕ
DOT2 = 44

abbrev pub STAREQ : ℕ
STAREQ = 45

abbrev pub SLASHEQ : ℕ
SLASHEQ = 46

abbrev pub AMP2 : ℕ
AMP2 = 47

abbrev pub AMPEQ : ℕ
AMPEQ = 48

abbrev pub PERCENTEQ : ℕ
PERCENTEQ = 49

abbrev pub CARETEQ : ℕ
CARETEQ = 50

abbrev pub PLUSEQ : ℕ
PLUSEQ = 51

abbrev pub SHL : ℕ
SHL = 52

abbrev pub LTEQ : ℕ
LTEQ = 53

abbrev pub EQ2 : ℕ
EQ2 = 54

abbrev pub FAT_ARROW : ℕ
FAT_ARROW = 55

abbrev pub GTEQ : ℕ
GTEQ = 56

abbrev pub SHR : ℕ
SHR = 57

abbrev pub PIPEEQ : ℕ
PIPEEQ = 58

abbrev pub PIPE2 : ℕ
PIPE2 = 59

abbrev pub DOT3 : ℕ
DOT3 = 60

abbrev pub DOT2EQ : ℕ
DOT2EQ = 61

abbrev pub SHLEQ : ℕ
SHLEQ = 62

abbrev pub SHREQ : ℕ
SHREQ = 63

-- "Nodes, 80 to 99 in order: ERROR, LITERAL, PATH_EXPR, PATH, PATH_SEGMENT, NAME_REF, PAREN_EXPR, REF_EXPR, PREFIX_EXPR, BIN_EXPR, RANGE_EXPR, CALL_EXPR, ARG_LIST, INDEX_EXPR, METHOD_CALL_EXPR, FIELD_EXPR, AWAIT_EXPR, TRY_EXPR, CAST_EXPR, PATH_TYPE."
abbrev pub ERROR : ℕ
ERROR = 80

abbrev pub LITERAL : ℕ
LITERAL = 81

abbrev pub PATH_EXPR : ℕ
PATH_EXPR = 82

abbrev pub PATH : ℕ
PATH = 83

abbrev pub PATH_SEGMENT : ℕ
PATH_SEGMENT = 84

abbrev pub NAME_REF : ℕ
NAME_REF = 85

abbrev pub PAREN_EXPR : ℕ
PAREN_EXPR = 86

abbrev pub REF_EXPR : ℕ
REF_EXPR = 87

abbrev pub PREFIX_EXPR : ℕ
PREFIX_EXPR = 88

abbrev pub BIN_EXPR : ℕ
BIN_EXPR = 89

abbrev pub RANGE_EXPR : ℕ
RANGE_EXPR = 90

abbrev pub CALL_EXPR : ℕ
CALL_EXPR = 91

abbrev pub ARG_LIST : ℕ
ARG_LIST = 92

abbrev pub INDEX_EXPR : ℕ
INDEX_EXPR = 93

abbrev pub METHOD_CALL_EXPR : ℕ
METHOD_CALL_EXPR = 94

abbrev pub FIELD_EXPR : ℕ
FIELD_EXPR = 95

abbrev pub AWAIT_EXPR : ℕ
AWAIT_EXPR = 96

abbrev pub TRY_EXPR : ℕ
TRY_EXPR = 97

abbrev pub CAST_EXPR : ℕ
CAST_EXPR = 98

abbrev pub PATH_TYPE : ℕ
PATH_TYPE = 99

-- "Steps are u32: enter 65,536 + node; token 131,072 + 256 × raw width + kind; leave 196,608; float split 262,144, + 1 if it ends in a dot; error 327,680 + code."
abbrev pub ENTER : ℕ
ENTER = 65536

abbrev pub TOKEN : ℕ
TOKEN = 131072

abbrev pub LEAVE : ℕ
LEAVE = 196608

abbrev pub FLOAT_SPLIT : ℕ
FLOAT_SPLIT = 262144

abbrev pub FAULT : ℕ
FAULT = 327680

abbrev pub WIDTH_STEP : ℕ
WIDTH_STEP = 256

abbrev pub ENDS_IN_DOT : ℕ
ENDS_IN_DOT = 1

-- "Codes: 1 expected expression, 2 expected method name, 3 expected field name or number, 4 expected type, 5 `)`, 6 `]`, 7 `,` expected."
abbrev pub EXPECTED_EXPRESSION : ℕ
EXPECTED_EXPRESSION = 1

abbrev pub EXPECTED_METHOD_NAME : ℕ
EXPECTED_METHOD_NAME = 2

abbrev pub EXPECTED_FIELD : ℕ
EXPECTED_FIELD = 3

abbrev pub EXPECTED_TYPE : ℕ
EXPECTED_TYPE = 4

abbrev pub EXPECTED_R_PAREN : ℕ
EXPECTED_R_PAREN = 5

abbrev pub EXPECTED_R_BRACK : ℕ
EXPECTED_R_BRACK = 6

abbrev pub EXPECTED_COMMA : ℕ
EXPECTED_COMMA = 7

-- "Refusals by number"
abbrev pub BAD_KIND : ℕ
BAD_KIND = 1

abbrev pub BAD_JOINT : ℕ
BAD_JOINT = 2

abbrev pub BAD_LENGTH : ℕ
BAD_LENGTH = 3

abbrev pub EVENTS_FULL : ℕ
EVENTS_FULL = 4

abbrev pub STEPS_FULL : ℕ
STEPS_FULL = 5

abbrev pub TOO_DEEP : ℕ
TOO_DEEP = 6

abbrev pub OUTSIDE_CUT : ℕ
OUTSIDE_CUT = 7

abbrev pub UNFIT : ℕ
UNFIT = 8

abbrev pub UNSOUND : ℕ
UNSOUND = 9

abbrev pub BROKEN_FORM : ℕ
BROKEN_FORM = 10
