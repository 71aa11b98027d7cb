-- Worked cases, as the modules that are read and the segments in which they come (this project's profile).
use Rattle.std.specs.Prelude.{ℕ, true, false, List, [], ◌∷◌, replicate}
use Rattle.le_bytes.specs.declared.name.Name.{Name}
use Rattle.sym_mod.specs.declared.module.Kind.{Kind}
use Rattle.sym_mod.specs.declared.module.Kind.TheVariants.{Address, Branch, Displacement, Total as TotalKind}
use Rattle.sym_mod.specs.declared.module.Item.{Item}
use Rattle.sym_mod.specs.declared.module.ItemKind.{ItemKind}
use Rattle.sym_mod.specs.declared.module.ItemKind.TheVariants.{Sd, Cm, Label, Er, Wx, Register}
use Rattle.sym_mod.specs.declared.module.Frag.{Frag}
use Rattle.sym_mod.specs.declared.module.SymConst.{SymConst}
use Rattle.sym_mod.specs.declared.module.SymTerm.{SymTerm}
use Rattle.sym_mod.specs.declared.module.SymTarget.{SymTarget}
use Rattle.sym_mod.specs.declared.module.SymTarget.TheVariants.{Own, Register as NamedRegister, Total}
use Rattle.sym_mod.specs.declared.module.SymEntry.{SymEntry}
use Rattle.sym_mod.specs.declared.module.SymEntry.TheVariants.{None as NoEntry, At, Named}
use Rattle.linking_model.specs.Tree.{Overlays, plain, overlaid}
use Rattle.linking_model.specs.Kept.{Read}

-- ---- names

-- a name of one character
abbrev pub of_one : ℕ → Name
of_one a = record { 0 = a ∷ replicate 7 64 }

-- a name of two characters
abbrev pub of_two : ℕ → ℕ → Name
of_two a b = record { 0 = a ∷ b ∷ replicate 6 64 }

-- a name of three characters
abbrev pub of_three : ℕ → ℕ → ℕ → Name
of_three a b c = record { 0 = a ∷ b ∷ c ∷ replicate 5 64 }

-- a name of four characters
abbrev pub of_four : ℕ → ℕ → ℕ → ℕ → Name
of_four a b c d = record { 0 = a ∷ b ∷ c ∷ d ∷ replicate 4 64 }

-- the name of blank common and of private code
abbrev pub blank_name : Name
blank_name = record { 0 = replicate 8 64 }

-- A
abbrev pub a_name : Name
a_name = of_one 193

-- B
abbrev pub b_name : Name
b_name = of_one 194

-- C
abbrev pub c_name : Name
c_name = of_one 195

-- Q
abbrev pub q_name : Name
q_name = of_one 216

-- W
abbrev pub w_name : Name
w_name = of_one 230

-- X
abbrev pub x_name : Name
x_name = of_one 231

-- Y
abbrev pub y_name : Name
y_name = of_one 232

-- P1
abbrev pub p1_name : Name
p1_name = of_two 215 241

-- P2
abbrev pub p2_name : Name
p2_name = of_two 215 242

-- S1
abbrev pub s1_name : Name
s1_name = of_two 226 241

-- S2
abbrev pub s2_name : Name
s2_name = of_two 226 242

-- S3
abbrev pub s3_name : Name
s3_name = of_two 226 243

-- SUB
abbrev pub sub_name : Name
sub_name = of_three 226 228 194

-- MAIN
abbrev pub main_name : Name
main_name = of_four 212 193 201 213

-- ROOT
abbrev pub root_name : Name
root_name = of_four 217 214 214 227

-- SUB2
abbrev pub sub2_name : Name
sub2_name = of_four 226 228 194 242

-- ---- parts of modules

-- an item that is no register, and whose section, if it is a label, is the first item
abbrev pub item : Name → ItemKind → ℕ → ℕ → Item
item name kind base length = record { name = name; kind = kind; base = base; length = length; owner = 0; align = 0 }

-- an SD, assembled at 0
abbrev pub section : Name → ℕ → Item
section name length = item name Sd 0 length

-- an ER
abbrev pub reference : Name → Item
reference name = item name Er 0 0

-- a label of the first item
abbrev pub label_in_first : Name → ℕ → Item
label_in_first name base = item name Label base 0

-- a pseudo-register
abbrev pub register : Name → ℕ → ℕ → Item
register name length align = record { name = name; kind = Register; base = 0; length = length; owner = 0; align = align }

-- a term that is added, its target assembled at 0
abbrev pub plus : SymTarget → SymTerm
plus target = record { minus = false; target = target; base = 0 }

-- a term that is subtracted, its target assembled at 0
abbrev pub minus : SymTarget → SymTerm
minus target = record { minus = true; target = target; base = 0 }

-- a constant of four bytes in the first item
abbrev pub constant : ℕ → Kind → List SymTerm → SymConst
constant offset kind terms = record { item = 0; offset = offset; length = 4; kind = kind; terms = terms }

-- a branch constant of four bytes for item n
abbrev pub call_of : ℕ → ℕ → SymConst
call_of offset n = constant offset Branch (plus (Own n) ∷ [])

-- text from the first byte of the first item on
abbrev pub text : List ℕ → Frag
text bytes = record { item = 0; offset = 0; bytes = bytes }

-- a module without an entry, read in this segment
abbrev pub read : ℕ → List Item → List Frag → List SymConst → Read
read segment items fragments constants = record {
  module_ = record { items = items; fragments = fragments; constants = constants; entry = NoEntry };
  segment = segment;
}

-- the same module, with this entry
abbrev pub entered : SymEntry → Read → Read
entered entry r = record r { module_ = record r.module_ { entry = entry } }

-- ---- one segment

-- A of eight bytes, assembled at X'100', with a label B two bytes before its end; the last four bytes are the address
-- of A plus 4
abbrev pub assembled_modules : List Read
assembled_modules =
    read 1 (item a_name Sd 0x100 8 ∷ label_in_first b_name 0x106 ∷ []) (text (0 ∷ 0 ∷ 0 ∷ 0 ∷ 0 ∷ 0 ∷ 1 ∷ 4 ∷ []) ∷ [])
    (constant 4 Address (record { minus = false; target = Own 0; base = 0x100 } ∷ []) ∷ [])
    ∷ []

-- MAIN holds X minus Y; X and Y come in another module, Y assembled behind X
abbrev pub difference_modules : List Read
difference_modules =
    read 1 (section main_name 8 ∷ reference x_name ∷ reference y_name ∷ []) []
    (constant 4 Address (plus (Own 1) ∷ minus (Own 2) ∷ []) ∷ [])
    ∷ read 1 (section x_name 16 ∷ item y_name Sd 16 8 ∷ []) [] []
    ∷ []

-- SUB comes twice, the second time with label SUB2, which MAIN calls
abbrev pub twice_modules : List Read
twice_modules =
    read 1 (section main_name 4 ∷ reference sub2_name ∷ []) [] (call_of 0 1 ∷ [])
    ∷ read 1 (section sub_name 8 ∷ []) (text (replicate 8 193) ∷ []) []
    ∷ read 1 (section sub_name 8 ∷ label_in_first sub2_name 4 ∷ []) (text (replicate 8 194) ∷ []) []
    ∷ []

-- blank common of 100 and of 40 bytes, and a weak reference to W
abbrev pub common_modules : List Read
common_modules =
    read 1 (section main_name 4 ∷ item w_name Wx 0 0 ∷ item blank_name Cm 0 100 ∷ []) []
    (constant 0 Address (plus (Own 1) ∷ []) ∷ [])
    ∷ read 1 (section sub_name 4 ∷ item blank_name Cm 0 40 ∷ []) [] []
    ∷ []

-- MAIN of twelve X'FF', in them the displacements of P1 and P2, and the total
abbrev pub register_modules : List Read
register_modules =
    read 1 (section main_name 12 ∷ register p1_name 1 1 ∷ register p2_name 4 4 ∷ []) (text (replicate 12 255) ∷ [])
    (constant 0 Displacement (plus (NamedRegister p1_name) ∷ [])
    ∷ constant 4 Displacement (plus (NamedRegister p2_name) ∷ []) ∷ constant 8 TotalKind (plus Total ∷ []) ∷ [])
    ∷ []

-- two kept sections with a label Q each
abbrev pub two_labels_modules : List Read
two_labels_modules =
    read 1 (section main_name 4 ∷ label_in_first q_name 0 ∷ []) [] []
    ∷ read 1 (section sub_name 4 ∷ label_in_first q_name 4 ∷ []) [] []
    ∷ []

-- S1 of 8 bytes with the address of S2, S2 of 256 bytes, and S3 of 8
abbrev pub scatter_modules : List Read
scatter_modules =
    read 1 (section s1_name 8 ∷ reference s2_name ∷ []) [] (constant 0 Address (plus (Own 1) ∷ []) ∷ [])
    ∷ read 1 (section s2_name 256 ∷ []) [] [] ∷ read 1 (section s3_name 8 ∷ []) [] [] ∷ []

-- a FORTRAN program: a common area of 80, 80 and 88 bytes, and a library routine with a label
abbrev pub fortran_modules : List Read
fortran_modules =
    read 1
    (section main_name 0x1A4 ∷ item c_name Cm 0 80 ∷ reference sub_name ∷ reference sub2_name ∷ reference q_name ∷ []) []
    []
    ∷ read 1 (section sub_name 0xC8 ∷ item c_name Cm 0 80 ∷ reference sub2_name ∷ []) [] []
    ∷ read 1 (section sub2_name 0x7C ∷ item c_name Cm 0 88 ∷ []) [] []
    ∷ read 1 (section x_name 0x20 ∷ label_in_first q_name 0 ∷ []) [] []
    ∷ []

-- ---- overlay

-- ROOT of 16 bytes, which refers to two names, with these constants
abbrev pub root_calling : Name → Name → List SymConst → Read
root_calling first second constants =
    read 1 (section root_name 16 ∷ reference first ∷ reference second ∷ []) [] constants

-- OVERLAY X twice: segments 2 and 3 share storage
abbrev pub shared : Overlays
shared = overlaid (overlaid plain x_name false) x_name false

-- ROOT calls A and B
abbrev pub shared_modules : List Read
shared_modules =
    root_calling a_name b_name (call_of 0 1 ∷ call_of 4 2 ∷ [])
    ∷ read 2 (section a_name 8 ∷ []) (text (replicate 8 193) ∷ []) []
    ∷ read 3 (section b_name 16 ∷ []) (text (replicate 16 194) ∷ []) []
    ∷ []

-- A calls B, which drops A; the root's constants are given
abbrev pub crossing_modules : List SymConst → List Read
crossing_modules constants =
    root_calling a_name b_name constants
    ∷ read 2 (section a_name 8 ∷ reference b_name ∷ []) (text (replicate 8 193) ∷ []) (call_of 0 1 ∷ [])
    ∷ read 3 (section b_name 16 ∷ []) (text (replicate 16 194) ∷ []) []
    ∷ []

-- OVERLAY X, and OVERLAY Y with REGION: segment 3 has storage of its own
abbrev pub apart : Overlays
apart = overlaid (overlaid plain x_name false) y_name true

-- ROOT calls A and C, and A calls C
abbrev pub apart_modules : List Read
apart_modules =
    root_calling a_name c_name (call_of 0 1 ∷ call_of 4 2 ∷ [])
    ∷ read 2 (section a_name 8 ∷ reference c_name ∷ []) (text (replicate 8 193) ∷ []) (call_of 0 1 ∷ [])
    ∷ read 3 (section c_name 8 ∷ []) (text (replicate 8 195) ∷ []) []
    ∷ []

-- OVERLAY X, and OVERLAY Y below it
abbrev pub nested : Overlays
nested = overlaid (overlaid plain x_name false) y_name false

-- an area C in segments 2 and 3
abbrev pub promoted_modules : List Read
promoted_modules =
    read 1 (section root_name 8 ∷ []) [] []
    ∷ read 2 (section a_name 8 ∷ item c_name Cm 0 16 ∷ []) [] []
    ∷ read 3 (section b_name 8 ∷ item c_name Cm 0 24 ∷ []) [] []
    ∷ []

-- ROOT, SUB, SUB again with an entry, A in segment 2 with an entry, and X in segment 1 with label Q and an entry there
abbrev pub entered_modules : List Read
entered_modules =
    read 1 (section root_name 16 ∷ []) [] [] ∷ read 1 (section sub_name 8 ∷ []) [] []
    ∷ entered (At 0 2) (read 1 (section sub_name 8 ∷ []) [] [])
    ∷ entered (At 0 4) (read 2 (section a_name 8 ∷ label_in_first b_name 2 ∷ []) [] [])
    ∷ entered (Named q_name) (read 1 (section x_name 8 ∷ label_in_first q_name 4 ∷ []) [] [])
    ∷ []

-- four regions
abbrev pub four_regions : Overlays
four_regions = overlaid (overlaid (overlaid plain a_name true) b_name true) c_name true
