-- The two texts of a generated simulation: four classes, so many objects, and an input.
use Rattle.std.specs.Prelude.{ℕ, zero, suc, ◌%◌, List, [], ◌++◌, codes, decimal}

-- The jobs of the first class are on thread 0, and those of another on the thread of its number.
abbrev pub thread_text : ℕ → List ℕ
thread_text zero = []
thread_text (suc k) = codes "C" ++ decimal (suc k) ++ codes " "

-- a line of a constructor: thread, cycle in seconds, and the step that runs
abbrev pub job_text : (thread cycle step : List ℕ) → List ℕ
job_text thread cycle step =
    codes "      " ++ thread ++ codes "(" ++ cycle ++ codes ", \"scheduled\") step_" ++ step ++ codes "();\n"

-- the base, the variables and the steps, which are those of each class
unfoldable pub members_text : List ℕ
members_text =
    codes " : public Trick::SimObject {\n"
    ++ codes "  public:\n"
    ++ codes "    long a;\n"
    ++ codes "    long b;\n"
    ++ codes "    long c;\n"
    ++ codes "    void step_a() { a += 1; }\n"
    ++ codes "    void step_b() { b += a; }\n"
    ++ codes "    void step_c() { c = c + b - a; }\n"

-- the lines of a constructor, one for each step
unfoldable pub jobs_text : ℕ → List ℕ
jobs_text k =
    job_text (thread_text k) (codes "0.000001") (codes "a")
    ++ job_text (thread_text k) (codes "0.000002") (codes "b")
    ++ job_text (thread_text k) (codes "0.000005") (codes "c")

-- the constructor of class k
unfoldable pub constructor_text : ℕ → List ℕ
constructor_text k = codes "    G" ++ decimal k ++ codes "() {\n" ++ jobs_text k ++ codes "    }\n"

-- class k
unfoldable pub class_text : ℕ → List ℕ
class_text k = codes "class G" ++ decimal k ++ members_text ++ constructor_text k ++ codes "};\n"

-- object i is of one of the four classes in turn
abbrev pub object_text : ℕ → List ℕ
object_text i = codes "G" ++ decimal (i % 4) ++ codes " o" ++ decimal i ++ codes ";\n"

-- so many classes, and so many objects, in order
abbrev pub classes_text : ℕ → List ℕ
classes_text zero = []
classes_text (suc k) = classes_text k ++ class_text k

abbrev pub objects_text : ℕ → List ℕ
objects_text zero = []
objects_text (suc i) = objects_text i ++ object_text i

-- the simulation definition with n objects
abbrev pub definition_text : ℕ → List ℕ
definition_text n = classes_text 4 ++ objects_text n

-- The input records a variable at each frame, and stops before a tic that would be the next one's.
unfoldable pub input_text : List ℕ
input_text =
    codes "trick.exec_set_software_frame(0.0001)\n"
    ++ codes "g = trick.DRAscii(\"gen\")\n"
    ++ codes "g.set_cycle(0.0001)\n"
    ++ codes "g.add_variable(\"o0.c\")\n"
    ++ codes "trick.add_data_record_group(g)\n"
    ++ codes "trick.stop(0.000999)\n"
