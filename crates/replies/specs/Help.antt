-- What the requests are, as the service program prints it.
use Rattle.std.specs.Prelude.{ℕ, List, ◌++◌, codes}

unfoldable pub help_text : List ℕ
help_text =
    codes "A request is a line: words apart by single spaces, numbers in decimal, bytes in hexadecimal.\n"
    ++ codes "  erect HEX         replaces everything by the tower of this file; answers ok\n"
    ++ codes "  hang NUMBER SECTION WIDTH LENGTH BARE ICED K\n"
    ++ codes "                    hangs an item: section 0 is the top, width and length in mm, bare and iced\n"
    ++ codes "                    coefficient and position factor K in thousandths; answers ok\n"
    ++ codes "  takedown NUMBER   takes down the item of this number; answers ok\n"
    ++ codes "  wind K ICE FACTOR P0 P1 ..\n"
    ++ codes "                    wind K times 15 degrees from the normal of face 1, ice class 0 to 5, structure\n"
    ++ codes "                    factor in thousandths, then each section's pressure in N/m2; answers ok\n"
    ++ codes "  report [ROOM]     answers ok SECTIONS, then a line a section from the top: flat, subcritical and\n"
    ++ codes "                    supercritical area in mm2, force in N, shear in N, moment in N mm at its foot\n"
    ++ codes "  check             answers ok SECTION, the topmost whose shear is above its allowance, or ok none\n"
    ++ codes "  write [ROOM]      answers ok HEX, the tower's file\n"
    ++ codes "  help              answers this text\n"
    ++ codes "ROOM: how many numbers (192 at most) or bytes (3000 at most) may be filled; without it, all.\n"
    ++ codes "refused N: turned down by rule N of document 01, as listed in include/dembyhai.h; nothing changed.\n"
    ++ codes "error: the line is no request, and what is wrong with it; nothing changed.\n"
