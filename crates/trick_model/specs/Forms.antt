-- What a form of an action or a client's line is made of, and how words are read by one.
use Rattle.std.specs.Prelude.{ℕ, ℤ, pos, neg_ℤ, Bool, true, false, List, [], ◌∷◌, ◌++◌, codes, decimal, Option, Some, None, option_map, Result, Ok, Err}
use Rattle.std.specs.Str.{bytes_eq}
use Rattle.trick_model.specs.Words.{Lexeme}
use Rattle.trick_text.specs.Numbers.{whole_value}
use Rattle.trick_text.specs.Seconds.{seconds_of}
use Rattle.trick_text.specs.Tokens.{inner}
use Rattle.trick_text.specs.declared.fault.TimeFault.{TimeFault}
use Rattle.trick_text.specs.declared.token.TokenKind.TheVariants as kinds

-- A piece of a form: one word or more.
pub data Piece : Type 0 where
  -- this word, and no other
  Is : (bytes : List ℕ) → Piece
  -- a string
  Quoted : Piece
  -- a whole number
  Whole : Piece
  -- a whole or decimal number of seconds that is a time
  Time : Piece
  -- a whole number with or without `-`, `True` or `False`
  Literal : Piece
  -- a full name: a name, and members and indexes
  Path : Piece

-- what a piece stands for: bytes, or a number
pub data Value : Type 0 where
  Bytes : (bytes : List ℕ) → Value
  Number : (number : ℤ) → Value

-- what was read by a piece: its values, and the words after it
pub record Read : Type 0 where
  pub values : List Value
  pub behind : List Lexeme

-- ---- one word

-- the word has these bytes
abbrev pub is_word : List ℕ → Lexeme → Bool
is_word bytes word = bytes_eq bytes word.bytes

-- the value of a whole number
abbrev pub whole_of : Lexeme → Option ℕ
whole_of word = elim (word.kind) [
  | kinds.Name ↦ None
  | kinds.Whole ↦ Some (whole_value word.bytes)
  | kinds.Decimal ↦ None
  | kinds.Text ↦ None
  | kinds.Mark ↦ None
]

-- what stands between the quotes of a string
abbrev pub quoted_of : Lexeme → Option (List ℕ)
quoted_of word = elim (word.kind) [
  | kinds.Name ↦ None
  | kinds.Whole ↦ None
  | kinds.Decimal ↦ None
  | kinds.Text ↦ Some (inner word.bytes)
  | kinds.Mark ↦ None
]

-- the bytes of a name
abbrev pub name_of : Lexeme → Option (List ℕ)
name_of word = elim (word.kind) [
  | kinds.Name ↦ Some word.bytes
  | kinds.Whole ↦ None
  | kinds.Decimal ↦ None
  | kinds.Text ↦ None
  | kinds.Mark ↦ None
]

-- the tics, where they are a time
abbrev pub tics_of : Result ℕ TimeFault → Option ℕ
tics_of (Ok tics) = Some tics
tics_of (Err fault) = None

-- the tics of a number of seconds, where they are a time
abbrev pub time_of : Lexeme → Option ℕ
time_of word = elim (word.kind) [
  | kinds.Name ↦ None
  | kinds.Whole ↦ tics_of (seconds_of 0 word.bytes)
  | kinds.Decimal ↦ tics_of (seconds_of 0 word.bytes)
  | kinds.Text ↦ None
  | kinds.Mark ↦ None
]

-- ---- pieces

-- a value that one word stands for, with the words after it
abbrev pub one_value : {A : Type 0} → (A → Value) → Option A → List Lexeme → Option Read
one_value value None behind = None
one_value value (Some a) behind = Some (record { values = value a ∷ []; behind = behind })

-- a natural number as a value
abbrev pub as_number : ℕ → Value
as_number n = Number (pos n)

-- `True` is 1 and `False` is 0.
abbrev pub literal_of : Lexeme → Option ℕ
literal_of word = elim (is_word (codes "True") word) [
  | true ↦ Some 1
  | false ↦ elim (is_word (codes "False") word) [ true ↦ Some 0 | false ↦ whole_of word ]
]

-- `-` and a whole number
abbrev pub read_negative : List Lexeme → Option Read
read_negative [] = None
read_negative (word ∷ behind) = one_value (λ n. Number (neg_ℤ (pos n))) (whole_of word) behind

-- a literal: with or without `-`
abbrev pub read_literal : List Lexeme → Option Read
read_literal [] = None
read_literal (word ∷ behind) = elim (is_word (codes "-") word) [
  | true ↦ read_negative behind
  | false ↦ one_value as_number (literal_of word) behind
]

-- the rest of a full name: `.` and a name, or an index in brackets, as often as they come
abbrev mutual
  pub read_members : List ℕ → List Lexeme → Option Read
  read_members name [] = Some (record { values = Bytes name ∷ []; behind = [] })
  read_members name (word ∷ behind) = elim (is_word (codes ".") word) [
    | true ↦ read_member name behind
    | false ↦ elim (is_word (codes "[") word) [
      | true ↦ read_index name behind
      | false ↦ Some (record { values = Bytes name ∷ []; behind = word ∷ behind })
    ]
  ]

  pub read_member : List ℕ → List Lexeme → Option Read
  read_member name [] = None
  read_member name (word ∷ behind) = elim (name_of word) [
    | None ↦ None
    | Some member ↦ read_members (name ++ codes "." ++ member) behind
  ]

  pub read_index : List ℕ → List Lexeme → Option Read
  read_index name [] = None
  read_index name (word ∷ []) = None
  read_index name (word ∷ close ∷ behind) = elim (whole_of word) [
    | None ↦ None
    | Some index ↦ elim (is_word (codes "]") close) [
      | true ↦ read_members (name ++ codes "[" ++ decimal index ++ codes "]") behind
      | false ↦ None
    ]
  ]

-- a full name
abbrev pub read_path : List Lexeme → Option Read
read_path [] = None
read_path (word ∷ behind) = elim (name_of word) [ None ↦ None | Some name ↦ read_members name behind ]

-- what a piece reads at the front of words
abbrev pub read_piece : Piece → List Lexeme → Option Read
read_piece (Is bytes) [] = None
read_piece (Is bytes) (word ∷ behind) = elim (is_word bytes word) [
  | true ↦ Some (record { values = []; behind = behind })
  | false ↦ None
]
read_piece Quoted [] = None
read_piece Quoted (word ∷ behind) = one_value Bytes (quoted_of word) behind
read_piece Whole [] = None
read_piece Whole (word ∷ behind) = one_value as_number (whole_of word) behind
read_piece Time [] = None
read_piece Time (word ∷ behind) = one_value as_number (time_of word) behind
read_piece Literal words = read_literal words
read_piece Path words = read_path words

-- ---- forms

-- the values of pieces that stand for all of these words
abbrev pub read_pieces : List Piece → List Lexeme → Option (List Value)
read_pieces [] [] = Some []
read_pieces [] (word ∷ words) = None
read_pieces (piece ∷ pieces) words = elim (read_piece piece words) [
  | None ↦ None
  | Some read ↦ option_map (λ values. read.values ++ values) (read_pieces pieces read.behind)
]

-- A form: its pieces, and what the values of these make.
pub record Form (A : Type 0) : Type 0 where
  pub pieces : List Piece
  pub made : List Value → A

-- what words make that have one of these forms; where they have two, the first counts
abbrev pub read_forms : {A : Type 0} → List (Form A) → List Lexeme → Option A
read_forms [] words = None
read_forms (form ∷ forms) words = elim (read_pieces form.pieces words) [
  | None ↦ read_forms forms words
  | Some values ↦ Some (form.made values)
]

-- pieces with commas between
abbrev pub separated : List Piece → List Piece
separated [] = []
separated (piece ∷ []) = piece ∷ []
separated (piece ∷ other ∷ pieces) = piece ∷ Is (codes ",") ∷ separated (other ∷ pieces)

-- the call of a word of `trick`
abbrev pub call : List ℕ → List Piece → List Piece
call name arguments =
    Is (codes "trick") ∷ Is (codes ".") ∷ Is name ∷ Is (codes "(") ∷ (separated arguments ++ Is (codes ")") ∷ [])

-- ---- values, by their place

-- the bytes of a value
abbrev pub bytes_in : Value → List ℕ
bytes_in (Bytes bytes) = bytes
bytes_in (Number number) = []

-- the number of a value
abbrev pub number_in : Value → ℤ
number_in (Bytes bytes) = pos 0
number_in (Number number) = number
