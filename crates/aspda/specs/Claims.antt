-- What is to be believed of the library, as types in the order of its demands. `proofs/Theorems.antt` proves each.
-- The functions' contracts say that they answer what the definitions give, so these claims are about the functions.
-- In order: reading; signs; what sheets append; quotients; extension and restriction; the check; show; translating; exporting; assembly; words.
-- Assumes nothing.
use Rattle.std.specs.Prelude.{ℕ, ◌+◌, ◌*◌, ◌^◌, ◌≤◌, ◌<◌, ◌≡◌, ◌↔◌, false, cond, not, ◌||◌, List, [], ◌∷◌, ◌++◌, map, T, eqb, length, get_or, take, drop, Ok, Err}
use Rattle.std.proofs.Math.Option.{some}
use Rattle.buffer.specs.Bytes.{Bytes}
use Rattle.buffer.specs.Write.{write}
use Rattle.literal.specs.declared.Limits.{Limits}
use Rattle.literal.specs.declared.SignedAtom.{SignedAtom}
use Rattle.literal.specs.declared.Literal.{Literal}
use Rattle.literal.specs.declared.Literal.TheVariants.{Signed}
use Rattle.literal.specs.Literal.{kind, negated, negated_kind, Valid, decoded, opposite}
use Rattle.literal.specs.Limits.{source, plain}
use Rattle.semantics.specs.Set.{set_of}
use Rattle.semantics.specs.Rule.{Rule, Program}
use Rattle.semantics.specs.Expansion.{appended}
use Rattle.semantics.specs.Item.{Item, rule, rules, overrides, oppositions, appended_by, expanded}
use Rattle.semantics.specs.Extension.{extension, restriction}
use Rattle.semantics.specs.Translation.{translation, translation_length, translated_counts}
use Rattle.semantics.specs.Match.{FormMatch}
use Rattle.semantics.specs.Meaning.{AnswerSet}
use Rattle.semantics.specs.Verdict.{clash, broken, smaller, finding}
use Rattle.semantics.specs.Findings.{FirstOpposed, BrokenAt, SmallerBy}
use Rattle.record.specs.declared.Refusal.{Refusal}
use Rattle.record.specs.Layout.{encoded_rule, encoded_rules, encoded_program, keeps, encoded_items, encoded_file, keeps_file}
use Rattle.record.specs.Reading.{items, parsed, reading}
use Rattle.record_show.specs.declared.Extent.{Extent}
use Rattle.record_show.specs.Show.{shown, shown_extent}
use Rattle.set.specs.Layout.{ascending, encoded_set, keeps_set}
use Rattle.set.specs.Reading.{parsed_set}
use Rattle.translate.specs.Translate.{translated}
use Rattle.quotient.specs.Quotient.{quotient_program, quotiented}
use Rattle.aspif_meaning.specs.Numbering.{number_of}
use Rattle.aspif_meaning.specs.Program.{names}
use Rattle.aspif_meaning.specs.Match.{NumberMatch}
use Rattle.aspif_text.specs.Text.{Statement, name_text, output_of, statements, aspif_text}
use Rattle.aspif_text.specs.Reading.{says, rules_of, outputs_of}
use Rattle.aspif.specs.Aspif.{exported}
use Rattle.extend.specs.Extend.{extension_list, extended}
use Rattle.restrict.specs.Restrict.{restriction_list, restricted}
use Rattle.check_set.specs.declared.Verdict.TheVariants.{Yes}
use Rattle.check_set.specs.Verdict.{verdict_of, witness}
use Rattle.check_set.specs.Check.{checked}
use Rattle.assembly.specs.State.{Stage, before, opened, closed, Shape, shapes, keeps_stage, state_bytes, encoded_stage, is_state, stage_of}
use Rattle.assembly.specs.Calls.{Call, begin, drop_last, close, called, assembled}
use Rattle.assembly.specs.History.{Session, called_in, after, run, rules_after, BytesIn, AllBytes, GivenBack}
use Rattle.aspda_word.specs.Words.{ToldCount, ToldShown, ToldCheck}
use Rattle.aspda.specs.Example.{example_options, example_sheets, example_defeats}

-- demand 1, accepted half: reading in a form accepts exactly the encodings of items within the form's limits
abbrev pub Reads : Limits → Type 0
Reads F = (b : List ℕ) (is : List Item) → Bytes b → (items F b ≡ Ok is) ↔ ((b ≡ encoded_file is) × T (keeps_file F is))

-- of items that are read, the program that every operation means is the expanded one, and reading counts the written rules
pub record Means (F : Limits) : Type 0 where
  pub program : (b : List ℕ) (is : List Item) → items F b ≡ Ok is → parsed F b ≡ Ok (expanded is)
  pub count : (b : List ℕ) (is : List Item) → items F b ≡ Ok is → reading F b ≡ Ok (length (rules is))

-- where a form has no sheets, it accepts exactly the encodings of programs within its limits
abbrev pub ReadsProgram : Limits → Type 0
ReadsProgram F = (b : List ℕ) (p : Program) → Bytes b → (parsed F b ≡ Ok p) ↔ ((b ≡ encoded_program p) × T (keeps F p))

-- the same of sets: a set's record is read as the ascending list that it holds, of literals of the form and of no more than
-- the operation takes
abbrev pub ReadsSet : Limits → Type 0
ReadsSet F = (most : ℕ) (k : List ℕ) (ls : List Literal) → Bytes k → (parsed_set F most k ≡ Ok ls) ↔ ((k ≡ encoded_set ls) × T (keeps_set F most ls))

pub record Reading : Type 0 where
  pub reads_source : Reads source
  pub reads_plain : Reads plain
  pub means_source : Means source
  pub means_plain : Means plain
  pub reads_plain_program : ReadsProgram plain
  pub reads_source_set : ReadsSet source
  pub reads_plain_set : ReadsSet plain

-- 02's Ask 3: the sign that a kind gives goes by its remainder by 2. 01's kinds keep theirs, and every other place where a sign is
-- told agrees
pub record Signing : Type 0 where
  -- 0 an atom, 1 an explicitly negated atom, 2 to 5 their marks likewise; 6, the rule-defeated mark, counts as positive
  pub kinds : (k : ℕ) → k ≤ 6 → negated_kind k ≡ (eqb k 1 || eqb k 3 || eqb k 5)
  -- a literal is written with a kind of its own sign, a mark with one of its atom's
  pub written : (l : Literal) → negated_kind (kind l) ≡ negated l
  -- five bytes that a form takes are read as a literal of their kind's sign
  pub read : (F : Limits) (bs : List ℕ) (l : Literal) → decoded F bs ≡ Valid l → negated_kind (get_or bs 0 0) ≡ negated l
  -- what clashes with an atom has the other sign
  pub opposed : (a : SignedAtom) → negated_kind (kind (Signed (opposite a))) ≡ not (negated_kind (kind (Signed a)))
  -- an export's name starts with `n` for a negated atom, and with `p` else
  pub named : (a : SignedAtom) → get_or (name_text a) 0 0 ≡ cond (negated_kind (kind (Signed a))) 0x6E 0x70

-- 02's Ask 2: what the sheets of a file append to its written rules
pub record Expanding : Type 0 where
  -- the written rules stay as they are, in their places
  pub written : (is : List Item) → expanded is ≡ rules is ++ appended (rules is) (overrides is) (oppositions is)
  -- at most two rules for each override with each opposition, and none for a file without one of the two
  pub few : (is : List Item) → length (appended_by is) ≤ 2 * (length (overrides is) * length (oppositions is))
  -- 000's Example 1, written with sheets, means M3's rules in M3's order
  pub example : expanded (map rule example_options ++ example_sheets) ≡ example_options ++ example_defeats

-- demand 2, quotients in a form: of a program and a set that are read, the quotient is written where there is room, and
-- what is written is read in plain form as the quotient
pub record Quotients (F : Limits) : Type 0 where
  pub writes : (b k : List ℕ) (p : Program) (ls : List Literal) → parsed F b ≡ Ok p → parsed_set F F.literals k ≡ Ok ls
      → (out : List ℕ) → length (encoded_program (quotient_program p ls)) ≤ length out
      → quotiented F b k out ≡ record {
        answer = Ok (length (encoded_program (quotient_program p ls)));
        buffer = write out 0 (encoded_program (quotient_program p ls));
      }
  pub reads_back : (b : List ℕ) (p : Program) (ls : List Literal) → Bytes b → parsed F b ≡ Ok p
      → parsed plain (encoded_program (quotient_program p ls)) ≡ Ok (quotient_program p ls)
  -- it is no longer than its file, with 17 bytes for each rule that is appended
  pub no_longer : (b : List ℕ) (is : List Item) (ls : List Literal) → Bytes b → items F b ≡ Ok is
      → length (encoded_program (quotient_program (expanded is) ls)) ≤ length b + 17 * length (appended_by is)

pub record Quotient : Type 0 where
  pub quotient_source : Quotients source
  pub quotient_plain : Quotients plain
  -- that of a plain program is no longer than its program
  pub plain_no_longer : (b : List ℕ) (p : Program) (ls : List Literal) → Bytes b → parsed plain b ≡ Ok p
      → length (encoded_program (quotient_program p ls)) ≤ length b

-- demand 2, of a source and a source set that are read: the extension's list is written where there is room, and what is written
-- is read in plain form as that list, which is the extension, ascending; its restriction is the set that went in. Of a plain
-- set that is read, the restriction's list is written where there is room; it is the meaning's restriction
pub record Extending : Type 0 where
  pub writes : (b k : List ℕ) (p : Program) (ls : List Literal) → parsed source b ≡ Ok p → parsed_set source source.literals k ≡ Ok ls
      → (out : List ℕ) → length (encoded_set (extension_list p ls)) ≤ length out
      → extended source b k out ≡ record { answer = Ok (length (encoded_set (extension_list p ls))); buffer = write out 0 (encoded_set (extension_list p ls)) }
  pub reads_back : (b k : List ℕ) (p : Program) (ls : List Literal) → Bytes b → Bytes k → parsed source b ≡ Ok p
      → parsed_set source source.literals k ≡ Ok ls
      → parsed_set plain plain.literals (encoded_set (extension_list p ls)) ≡ Ok (extension_list p ls)
  pub extends : (b : List ℕ) (p : Program) (ls : List Literal) → Bytes b → parsed source b ≡ Ok p → set_of (extension_list p ls) ≡ extension p (set_of ls)
  pub ascends : (k : List ℕ) (p : Program) (ls : List Literal) → Bytes k → parsed_set source source.literals k ≡ Ok ls
      → T (ascending (extension_list p ls))
  pub returns : (k : List ℕ) (p : Program) (ls : List Literal) → Bytes k → parsed_set source source.literals k ≡ Ok ls
      → restriction_list (extension_list p ls) ≡ ls
  pub writes_restriction : (k : List ℕ) (ls : List Literal) → parsed_set plain plain.literals k ≡ Ok ls → (out : List ℕ)
      → length (encoded_set (restriction_list ls)) ≤ length out
      → restricted plain k out ≡ record { answer = Ok (length (encoded_set (restriction_list ls))); buffer = write out 0 (encoded_set (restriction_list ls)) }
  pub restricts : (ls : List Literal) → set_of (restriction_list ls) ≡ restriction (set_of ls)
  -- an extension takes at most 25,484 bytes: 1,000 literals and 4,096 marks
  pub at_most : (b k : List ℕ) (p : Program) (ls : List Literal) → Bytes b → Bytes k → parsed source b ≡ Ok p
      → parsed_set source source.literals k ≡ Ok ls
      → length (encoded_set (extension_list p ls)) ≤ 25484
  -- a restriction is no longer than its set
  pub no_longer : (k : List ℕ) (ls : List Literal) → Bytes k → parsed_set plain plain.literals k ≡ Ok ls
      → length (encoded_set (restriction_list ls)) ≤ length k

-- demand 2, the check in a form: of a program and a set that are read, with room for the set's record, the answer and the
-- buffer are those of the finding, and the answer is yes exactly for an answer set
pub record Checks (F : Limits) : Type 0 where
  pub finds : (b k : List ℕ) (p : Program) (ls : List Literal) → parsed F b ≡ Ok p → parsed_set F F.checked k ≡ Ok ls
      → (out : List ℕ) → length k ≤ length out
      → checked F b k out ≡ record { answer = Ok (verdict_of (finding p ls)); buffer = write out 0 (witness (finding p ls)) }
  pub says_yes : (b k : List ℕ) (p : Program) (ls : List Literal) → parsed F b ≡ Ok p → parsed_set F F.checked k ≡ Ok ls
      → (out : List ℕ) → length k ≤ length out → ((checked F b k out).answer ≡ Ok Yes) ↔ AnswerSet p (set_of ls)

-- each other finding shows what it says: the first literal whose opposite is in the set; the first rule whose remainder does
-- not hold; the first proper subset that is a model of the quotient
pub record Checking : Type 0 where
  pub check_source : Checks source
  pub check_plain : Checks plain
  pub shows_clash : (p : Program) (ls : List Literal) (n : ℕ) → (finding p ls ≡ clash n) ↔ FirstOpposed (set_of ls) 1 ls n
  pub shows_broken : (p : Program) (ls : List Literal) (n : ℕ) → (finding p ls ≡ broken n) ↔ BrokenAt p ls n
  pub shows_smaller : (p : Program) (ls s : List Literal) → (finding p ls ≡ smaller s) ↔ SmallerBy p ls s

-- demand 2, show in a form, of a file that is read and the number of one of its written rules, r
pub record Shows (F : Limits) : Type 0 where
  -- its record lies behind those of the items before it
  pub finds : (b : List ℕ) (before : List Item) (r : Rule) (after : List Item) → Bytes b → items F b ≡ Ok (before ++ (rule r ∷ after))
      → shown F b (length (rules before) + 1) ≡ Ok (record { start = length (encoded_items before); size = length (encoded_rule r) })
  -- the part that is handed back is that record
  pub hands_back : (b : List ℕ) (before : List Item) (r : Rule) (after : List Item) → Bytes b → items F b ≡ Ok (before ++ (rule r ∷ after))
      → (e : Extent) → shown F b (length (rules before) + 1) ≡ Ok e → take e.size (drop e.start b) ≡ encoded_rule r
  -- a refusal hands back the empty part at the slice's start
  pub hands_back_nothing : (b : List ℕ) (n : ℕ) (x : Refusal) → shown F b n ≡ Err x → shown_extent (shown F b n) ≡ record { start = 0; size = 0 }

pub record Showing : Type 0 where
  pub show_source : Shows source
  pub show_plain : Shows plain

-- demand 3, for the bytes b of a source that is read as p, and a lent buffer out that is long enough
pub record Translates (b : List ℕ) (p : Program) (out : List ℕ) : Type 0 where
  -- the answer is the length of what is written, and the bytes behind it are untouched
  pub answers : (translated source b out).answer ≡ Ok (translation_length p)
  pub behind : drop (translation_length p) (translated source b out).buffer ≡ drop (translation_length p) out
  -- what is written is read in plain form as the translation, rule for rule
  pub reads_back : parsed plain (take (translation_length p) (translated source b out).buffer) ≡ Ok (translation p)

pub record Translating : Type 0 where
  -- a buffer as long as the sum is long enough
  pub translates : (b : List ℕ) (p : Program) → Bytes b → parsed source b ≡ Ok p → (out : List ℕ) → translation_length p ≤ length out → Translates b p out
  -- the sum is at most thirteen times the source's length: its written bytes, and 17 for each rule that is appended
  pub thirteenfold : (b : List ℕ) (is : List Item) → Bytes b → items source b ≡ Ok is
      → translation_length (expanded is) ≤ 13 * (length b + 17 * length (appended_by is))
  -- closer, for callers who size a buffer: an appended rule is its own translation
  pub bound : (b : List ℕ) (is : List Item) → Bytes b → items source b ≡ Ok is
      → translation_length (expanded is) ≤ 13 * length b + 17 * length (appended_by is)
  -- 3k + 2 rules for each defeasible rule with k options, one for each strict rule, the appended ones too
  pub rules : (b : List ℕ) (p : Program) → parsed source b ≡ Ok p → length (translation p) ≡ translated_counts p
  -- the answer sets match one to one, for every set of source literals and every set of plain literals
  pub matches : (b : List ℕ) (p : Program) → Bytes b → parsed source b ≡ Ok p → FormMatch source plain p

-- 02's Ask 1, for the bytes b of a plain program that is read as p, and a lent buffer out that is long enough
pub record Exports (b : List ℕ) (p : Program) (out : List ℕ) : Type 0 where
  -- the answer is the length of what is written, and the bytes behind it are untouched
  pub answers : (exported plain b out).answer ≡ Ok (length (aspif_text p))
  pub behind : drop (length (aspif_text p)) (exported plain b out).buffer ≡ drop (length (aspif_text p)) out
  -- what is written says, line by line, the rules of p in numbers, the constraints and the names
  pub reads_back : says (take (length (aspif_text p)) (exported plain b out).buffer) ≡ some (statements p)

pub record Exporting : Type 0 where
  -- a buffer as long as the text is long enough
  pub exports : (b : List ℕ) (p : Program) → Bytes b → parsed plain b ≡ Ok p → (out : List ℕ) → length (aspif_text p) ≤ length out → Exports b p out
  -- a text has at most twice the program's bytes and 29,012 more
  pub bound : (b : List ℕ) (p : Program) → Bytes b → parsed plain b ≡ Ok p → length (aspif_text p) ≤ 2 * length b + 29012
  -- by the numbers of p's literals, p's answer sets match those of the ground program that the text says, one to one
  pub matches : (b : List ℕ) (p : Program) → Bytes b → parsed plain b ≡ Ok p → (xs : List Statement) → says (aspif_text p) ≡ some xs
      → NumberMatch p (number_of p) (rules_of xs)
  -- and the names that it says are those of p's atoms and negated atoms, with their numbers
  pub names_said : (p : Program) (xs : List Statement) → says (aspif_text p) ≡ some xs → outputs_of xs ≡ map output_of (names p)

-- 02's Ask 4, one call of an assembly, on any bytes as a state and any lent buffer
pub record Calling : Type 0 where
  -- a refused call changes neither state nor buffer
  pub refused_same : (c : Call) (st out : List ℕ) (x : Refusal) → (called source c st out).answer ≡ Err x
      → ((called source c st out).state ≡ st) × ((called source c st out).buffer ≡ out)
  -- answers and states do not depend on the buffer's bytes
  pub blind : (c : Call) (st out other : List ℕ) → length out ≡ length other
      → ((called source c st out).answer ≡ (called source c st other).answer) × ((called source c st out).state ≡ (called source c st other).state)
  -- begin and drop write nothing
  pub begin_silent : (st out : List ℕ) → (called source begin st out).buffer ≡ out
  pub drop_silent : (st out : List ℕ) → (called source drop_last st out).buffer ≡ out
  -- an accepted call answers how many rules are then held
  pub counts : (c : Call) → BytesIn c → (st out : List ℕ) → Bytes st → (n : ℕ) → (called source c st out).answer ≡ Ok n
      → length (shapes (stage_of source (called source c st out).state)) ≡ n
  -- a state has 520 bytes; bytes are a state exactly if they are those of a stage within the limits, and exactly if some history of calls,
  -- begun from zeros, gives them back; all else counts as a state before the first begin
  pub bytes : state_bytes source ≡ 520
  pub states : (bs : List ℕ) → Bytes bs → T (is_state source bs) ↔ ((s : Stage) × T (keeps_stage source s) × (bs ≡ encoded_stage source s))
  pub given_back : (bs : List ℕ) → Bytes bs → T (is_state source bs) ↔ GivenBack source bs
  pub others : (bs : List ℕ) → is_state source bs ≡ false → stage_of source bs ≡ before
  -- a call on a state gives back a state, whatever buffers the calls before it were lent; and so does an accepted begin on any bytes
  pub stays : (c : Call) → BytesIn c → (st out : List ℕ) → Bytes st → T (is_state source st) → T (is_state source (called source c st out).state)
  pub begins : (st out : List ℕ) → (called source begin st out).answer ≡ Ok 0 → T (is_state source (called source begin st out).state)

-- what a session, and the rules p that were added and not dropped, come to
pub record Assembled (s : Session) (p : Program) : Type 0 where
  -- so many rules are held, and so long is the closed program
  pub counts : length (shapes (stage_of source s.state)) ≡ length p
  pub measures : assembled source s.state ≡ length (encoded_program p)
  -- closing is never refused
  pub closes : (ss : List Shape) → stage_of source s.state ≡ opened ss → (called_in source close s).answer ≡ Ok (length p)
  -- when it is closed, reading accepts the bytes to the last of the end record as these rules, in order
  pub reads : (ss : List Shape) → stage_of source s.state ≡ closed ss
      → items source (take (assembled source s.state) s.buffer) ≡ Ok (map rule p)
  -- and show gives each of them, by its number
  pub shows : (ss : List Shape) → stage_of source s.state ≡ closed ss → Bytes s.buffer → (front : Program) (r : Rule) (rest : Program) → p ≡ front ++ (r ∷ rest)
      → (shown source (take (assembled source s.state) s.buffer) (length front + 1)
      ≡ Ok (record { start = length (encoded_rules front); size = length (encoded_rule r) }))
      × (take (length (encoded_rule r)) (drop (length (encoded_rules front)) (take (assembled source s.state) s.buffer)) ≡ encoded_rule r)

-- the promise over a history: an accepted begin, and any calls that each get the state that the one before gave back and are lent the same
-- buffer, which only they write. The rules are those added since the last accepted begin and not dropped
abbrev pub Assembles : Type 0
Assembles =
    (s : Session) → (called_in source begin s).answer ≡ Ok 0 → (cs : List Call) → AllBytes cs
    → Assembled (run source cs (after source begin s)) (rules_after source cs (after source begin s) [])

pub record Assembling : Type 0 where
  pub calling : Calling
  pub promise : Assembles

-- the words that the exports answer, in a form: a word is 2^63 or more exactly for a refusal, so that its highest bit tells a
-- caller. The slices hold bytes; nothing is assumed of their lengths
pub record Tells (F : Limits) : Type 0 where
  -- the number of rules; a part's start and length; a quotient's length; a verdict
  pub reads : (b : List ℕ) → Bytes b → ToldCount (reading F b)
  pub shows : (b : List ℕ) (n : ℕ) → Bytes b → ToldShown (shown F b n)
  pub quotients : (b k out : List ℕ) → Bytes b → ToldCount (quotiented F b k out).answer
  pub checks : (b k out : List ℕ) → Bytes b → Bytes k → ToldCheck (checked F b k out).answer

pub record Words : Type 0 where
  pub tells_source : Tells source
  pub tells_plain : Tells plain
  -- the lengths of what the operations of one form write
  pub translates : (b out : List ℕ) → Bytes b → ToldCount (translated source b out).answer
  pub exports : (b out : List ℕ) → Bytes b → ToldCount (exported plain b out).answer
  pub extends : (b k out : List ℕ) → Bytes b → Bytes k → ToldCount (extended source b k out).answer
  pub restricts : (k out : List ℕ) → Bytes k → ToldCount (restricted plain k out).answer
  -- the rules that an assembly holds, and the length that is assembled
  pub calls : (c : Call) → BytesIn c → (st out : List ℕ) → Bytes st → ToldCount (called source c st out).answer
  pub assembles : (st : List ℕ) → Bytes st → assembled source st < 2 ^ 63
